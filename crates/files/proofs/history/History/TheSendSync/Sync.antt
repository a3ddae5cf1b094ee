-- A history owns nothing, so threads may share it.
use denote.Param.Send.{IsSync, whole-keyless}
use Rattle.files.specs.contracts.history.History.{the_row}
use Rattle.files.proofs.history.History.TheSendSync.Send.{send}

pub sync : IsSync the_row
sync = record { shared = λ d b o κ q. whole-keyless _ _ (λ z vs. send.owned z vs) q d b o }
