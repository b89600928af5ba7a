-- A cycle under way on a master: what is said as it begins, and of each reply that is heard, is what the execution control says of it and its queues.
-- It is a turn of a succession where it is heard to its end with the replies of a line (`on_a_line` of `Begins`): then the master is where that cycle leads.
-- One that is given up, or that hears what no line replies, is none, and the promise speaks of no master behind it.
use Rattle.std.specs.Prelude.{Bool}
use Rattle.telegrams.specs.Requests.{Heard}
use Rattle.orders.specs.declared.pair.Queues.{Queues}
use Rattle.control.specs.Driving.{Begins, Hears}
use Rattle.master.specs.declared.master.MasterWith.{MasterWith}
use Rattle.master.specs.declared.underway.Underway.{Underway}

abbrev pub BeginsWith : Bool → MasterWith Queues → Underway Queues → Type 0
BeginsWith powered m u = Begins powered m.control m.queues u.cycle u.master.now.control u.master.now.queues

abbrev pub HearsWith : Heard → Underway Queues → Underway Queues → Type 0
HearsWith h u u' =
    Hears h u.master.now.control u.master.now.queues u.cycle u'.master.now.control u'.master.now.queues u'.cycle
