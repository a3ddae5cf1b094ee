use Rattle.std.proofs.Common.{◌≡◌, List, ap, sym, ◌∙◌, rules}
use Rattle.versions.specs.Alike.{of_tuple}
use Rattle.versions.specs.Rows.{versions_of}
use Rattle.tuples.specs.declared.version.Version.{Version}
use Rattle.tuples.specs.Versions.{last_version}
use Rattle.versions.proofs.Alike.{last_own}
use Rattle.versions.proofs.versions.Versions.last.Goals as goal

pub returns : goal.returns
returns c =
    let own : versions_of c.args.tuple.now c.as_slice.result.now ≡ of_tuple c.args.tuple.now c.args.self.now = search rules in
    c.last_place.ensures c.args.tuple.now ∙ ap (λ (rows : List Version). last_version rows c.args.tuple.now) own ∙ sym (last_own c.args.self.now c.args.tuple.now)
