-- One node more has begun, or is given back.
use Rattle.std.proofs.Common.{◌≡◌, ◌≤◌, ◌+◌, ◌*◌, ◌++◌, ◌∷◌, [], ℕ, List, All, Result, Ok, Err, length, refl, sym, ◌∙◌, ap, subst, append-nil}
use Rattle.std.specs.Result.{IfOk, OnOk}
use Rattle.std.proofs.lemmas.List.Elements.{All-append, All-cons, All-head, All-nil, All-tail}
use Rattle.std.specs.Global.{Vec}
use Rattle.std.specs.Vec.{vec_capacity, vec_len}
use Rattle.calls.specs.declared.carrying.Reach.{Reach}
use Rattle.cluster.specs.Openings.{IsOpenedOver}
use Rattle.cluster.specs.Worlds.{WorldView}
use Rattle.device.specs.Device.{State}
use Rattle.journal.specs.Beginnings.{BegunView}
use Rattle.tuples.specs.declared.version.Version.{Version}
use Rattle.reshard.specs.Caring.{IsCaredFor}
use Rattle.reshard.specs.Made.{AreHonest, AreMade, HasLog, HaveShards, IsCarriedOver, devices_of}

-- each node so far has taken two of the devices
pub record BegunSoFar {D : Type 0} (honest : D → Type 0) (count : ℕ) (given devices : Vec D) (begun : Vec (BegunView D)) : Type 0 where
  pub left : vec_len devices + 2 * vec_len begun ≡ 2 * count
  pub room : count ≤ vec_capacity begun
  pub few : vec_len begun ≤ count
  pub capacity : vec_capacity devices ≡ vec_capacity given
  pub honest_so_far : All honest given.items → All honest devices.items × AreHonest honest begun.items

devices_last : {D : Type 0} (nodes : List (BegunView D)) (n : BegunView D) (rest : List D) → devices_of (nodes ++ n ∷ []) ++ rest ≡ devices_of nodes ++ n.a ∷ n.b ∷ rest
devices_last [] n rest = refl
devices_last {D = D} (m ∷ nodes) n rest = ap (λ (ds : List D). m.a ∷ m.b ∷ ds) (devices_last nodes n rest)

-- the devices of the nodes that are left, before those that are back, are all that there are
pub record GivenBack {D : Type 0} (all : Vec (BegunView D)) (before : Vec D) (begun : Vec (BegunView D)) (devices : Vec D) : Type 0 where
  pub items : devices_of begun.items ++ devices.items ≡ devices_of all.items ++ before.items
  pub len : vec_len devices + 2 * vec_len begun ≡ vec_len before + 2 * vec_len all
  pub room : vec_capacity devices ≡ vec_capacity before

pub one_back : {D : Type 0} (begun left : List (BegunView D)) (devices now all : List D) (n : BegunView D) (a b : D) → begun ≡ left ++ n ∷ [] → now ≡ a ∷ b ∷ devices → a ≡ n.a → b ≡ n.b
    → devices_of begun ++ devices ≡ all → devices_of left ++ now ≡ all
one_back {D = D} begun left devices now all n a b begun_is now_is a_is b_is before =
    ap (λ (ds : List D). devices_of left ++ ds) (now_is ∙ ap (λ (d : D). d ∷ b ∷ devices) a_is ∙ ap (λ (d : D). n.a ∷ d ∷ devices) b_is)
    ∙ sym (devices_last left n devices)
    ∙ ap (λ (ns : List (BegunView D)). devices_of ns ++ devices) (sym begun_is)
    ∙ before

pub two_taken : {D : Type 0} (honest : D → Type 0) (devices rest : List D) (a b : D) → devices ≡ a ∷ b ∷ rest → All honest devices → honest a × honest b × All honest rest
two_taken honest devices rest a b is all =
    let both = subst (All honest) is all in
    (All-head honest a (b ∷ rest) both, All-head honest b rest (All-tail honest a (b ∷ rest) both), All-tail honest b rest (All-tail honest a (b ∷ rest) both))

pub one_begun : {D : Type 0} (honest : D → Type 0) (begun now : List (BegunView D)) (n : BegunView D) → now ≡ begun ++ n ∷ [] → honest n.a → honest n.b → AreHonest honest begun → AreHonest honest now
one_begun honest begun now n is hon_a hon_b before =
    let P : BegunView _ → Type 0 = λ m. honest m.a × honest m.b in
    subst (All P) (sym is) (All-append P begun (n ∷ []) before (All-cons P n [] (hon_a, hon_b) (All-nil P)))

-- the devices of all nodes are those of a store
module _ {D T E : Type 0} (state : D → State) (honest : D → Type 0) (old : WorldView D) (shards : ℕ) (reach : Reach) (rows : List Version) (given items rest : List D) (nodes : List (BegunView D)) (is : items ≡ devices_of nodes ++ rest) where
  pub made : (result : Result T E) → OnOk result (length nodes ≡ shards + 1) → OnOk result (rest ≡ []) → (All honest given → OnOk result (AreHonest honest nodes))
      → (All honest given → OnOk result (HaveShards state old.store shards reach rows shards nodes)) → (All honest given → OnOk result (HasLog state honest old shards nodes))
      → OnOk result (AreMade state honest old shards reach rows given items)
  made (Ok x) count none still each log = record {
    nodes = nodes;
    count = count;
    made_is = is ∙ ap (λ (ds : List D). devices_of nodes ++ ds) none ∙ append-nil (devices_of nodes);
    still_honest = still;
    each = each;
    log = log;
  }
  made (Err e) count none still each log = tt

-- and a store is opened over them
pub opened_over : {D E : Type 0} (state : D → State) (honest : D → Type 0) (moment : D → ℕ) (left_since : D → ℕ → List ℕ → Type 0) (before old : WorldView D) (shards store : ℕ) (given made_items : List D) (result : Result (WorldView D) E) → store ≡ old.store
    → IsCaredFor state honest moment left_since before old × IsCarriedOver state honest old shards given made_items → IfOk result (IsOpenedOver state honest moment left_since store shards made_items)
    → IfOk result (λ w. (made : List D) × IsCaredFor state honest moment left_since before old × IsCarriedOver state honest old shards given made × IsOpenedOver state honest moment left_since old.store shards made w)
opened_over state honest moment left_since before old shards store given made_items (Ok w) store_is carried opened =
    (made_items, carried.0, carried.1, subst (λ (n : ℕ). IsOpenedOver state honest moment left_since n shards made_items w) store_is opened)
opened_over state honest moment left_since before old shards store given made_items (Err e) store_is carried opened = tt
