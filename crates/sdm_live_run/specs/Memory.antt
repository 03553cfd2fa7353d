-- What contracts see of a peer over memory (own).
use Rattle.std.specs.Prelude.{Bool, List, [], ◌∷◌, Option, Some, None, if◌then◌else◌}
use Rattle.sdm_live_run.specs.declared.memory.Call.{Call}
use Rattle.sdm_live_run.specs.declared.memory.Call.TheVariants as calls
use Rattle.sdm_live.specs.Exchanges.{Exchange, Gave, Took, Given_on, History}

-- what a call was (own)
abbrev pub exchange_of : Call → Exchange
exchange_of (calls.Gave bytes) = Gave bytes.items
exchange_of (calls.Took bytes) = Took bytes.items
exchange_of calls.GivenOn = Given_on

-- calls, the newest last, after a history (own)
abbrev pub log_onto : History → List Call → History
log_onto h [] = h
log_onto h (call ∷ more) = log_onto (exchange_of call ∷ h) more

-- the history of calls, unless one is lost (own)
abbrev pub history_of : Bool → List Call → Option History
history_of lost log = if lost then None else Some (log_onto [] log)
