use Rattle.locked.proofs.NewDevices.{new_devices_rest}
use Rattle.locked.proofs.opening_laws.new_devices_rest.Goals as goal

pub returns : goal.returns
returns g c shards = new_devices_rest g.D.Device.state g.D.Device.honest shards
