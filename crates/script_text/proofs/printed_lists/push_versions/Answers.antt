use Rattle.json_lines.proofs.Growing.{grown_as, grown_then}
use Rattle.script_text.specs.PrintedTexts.{version_line}
use Rattle.script_text.proofs.Rows.{one_more}
use Rattle.script_text.proofs.printed_lists.push_versions.Goals as goal

pub loop-version-preserved : goal.loop-version-preserved
loop-version-preserved c = grown_as (one_more version_line c.args.versions.now c.loop-version.version-index c.version-item.result c.loop-version-test.true c.version-item.is) (grown_then c.loop-version.invariant c.push_version.ensures)
