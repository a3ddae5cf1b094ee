use Rattle.std.proofs.Common.{◌≡◌, ◌+◌, ◌*◌, length, rules}
use Rattle.dumping.proofs.folder.write_devices.Goals as goal

pub returns-in-Ok : goal.returns-in-Ok
returns-in-Ok c =
    let count : length c.args.devices.items ≡ 2 * (c.args.shards + 1) = search rules in
    let dumped = c.in-Ok.ensures.ok in
    record { devices = c.args.devices.items; are_opened = record { count = count; found = c.requires.found }; text = dumped.0; is_text = dumped.1 }
