use Rattle.reshard.proofs.folder.carry_world.Goals as goal

pub returns-in-Ok-clause-ok : goal.returns-in-Ok-clause-ok
returns-in-Ok-clause-ok g c = record { closed = c.carry_over.new.old; is_cared_for = c.in-Ok.ensures.ok.0; is_carried_over = c.in-Ok.ensures.ok.1 }
