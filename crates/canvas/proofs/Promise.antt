-- Demand 3 of the calls of this crate, as one claim. Their contracts give `called_on` and `state_after` of crate ledger, and the promise is over every list of such answers (`answers` of Promise).
use Rattle.ledger.specs.Promise.{Promise}
use Rattle.ledger.proofs.Promise as ledger

pub promise : Promise
promise = ledger.promise
