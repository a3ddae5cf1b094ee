use Rattle.files.specs.Life.{synced}
use Rattle.files.proofs.Images.{noted}
use Rattle.files.proofs.file_device.FileDeviceDevice.sync.Goals as goal

pub returns-then-is_none-clause-time : goal.returns-then-is_none-clause-time
returns-then-is_none-clause-time g c = noted synced c.args.self.now.history.events c.note_sync.new.self.events c.note_sync.ensures
