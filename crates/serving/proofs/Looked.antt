-- A session that was not begun, since what its input begins with could not be read, or is another protocol.
use Rattle.std.proofs.Common.{ℕ, List, [], Option, None, Some, Result, Ok, Err, OnErr, inl, refl, sym}
use Rattle.std.specs.Io.KnownBytes.{Consumes, Keeps}
use Rattle.std.proofs.KnownBytes.{Appends-nil}
use Rattle.std.proofs.lemmas.List.Elements.{All-nil}
use Rattle.sessions.specs.Sessions.{Broke, Giving}

kept_nothing : (a b : Option (List ℕ)) → Keeps a b → Consumes a b []
kept_nothing None b kept = tt
kept_nothing (Some x) None kept = kept
kept_nothing (Some x) (Some y) kept = sym kept

module _ {A : Type 0} (store : ℕ) (gives : Giving A) (before after out : Option (List ℕ)) (a : A) where
  -- no line was taken
  pub broke_before : Keeps before after → Broke store gives before after out out a a
  broke_before kept = record {
    lines = [];
    rest = [];
    text = [];
    end = [];
    read = kept_nothing before after kept;
    ended = All-nil _;
    session = (refl, refl);
    of_end = inl refl;
    written = record { sent = []; unsent = []; whole = refl; written = Appends-nil out };
  }

  pub fails_before : {T E : Type 0} (r : Result T E) → Keeps before after → OnErr r (Broke store gives before after out out a a)
  fails_before (Ok x) kept = tt
  fails_before (Err e) kept = broke_before kept
