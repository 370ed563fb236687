-- When a call that goes on is handed back to its client.
use Rattle.std.specs.Prelude.{ℕ, ◌&&◌, Bool, nat_lt, if◌then◌else◌}
use Rattle.sp_base.specs.Placing.{is_pushed}
use Rattle.rw_set.specs.Weight.{weight_of}
use Rattle.task.specs.Parking.{parked_of}
use Rattle.task.specs.Tasks.{IsTask}
use Rattle.task.specs.Turning.{Live}
use Rattle.book.specs.declared.ends.End.TheVariants as ended
use Rattle.session.specs.Standing.{is_handed_back}
use Rattle.drive.specs.declared.pushing.Placement.{Placement}
use Rattle.drive.specs.declared.running.Passed.{Passed}
use Rattle.drive.specs.declared.running.Passed.TheVariants as passed

-- the session has room for one call more, and the placement rule hands this one back
abbrev pub goes_away : Placement → Live → Bool
goes_away placement live = nat_lt 0 placement.room
    && is_pushed placement.policy placement.load live.spent (weight_of live.reads) live.call.push_ok

-- a call that goes on is handed back, or stays live
abbrev pub placed : Placement → Live → Passed
placed placement live =
    if goes_away placement live
    then passed.Ends (ended.Pushed placement.load live.spent (parked_of live))
    else passed.GoesOn live

-- so behind each turn
abbrev pub placed_turn : Placement → Passed → Passed
placed_turn placement (passed.GoesOn next) = placed placement next
placed_turn placement (passed.Ends end) = passed.Ends end

-- how many calls are handed back by a turn
abbrev pub handed_by : Passed → ℕ
handed_by (passed.GoesOn next) = 0
handed_by (passed.Ends end) = is_handed_back end

-- what goes on is what every task is
abbrev pub IsOfTask : Passed → Type 0
IsOfTask (passed.GoesOn next) = IsTask next
IsOfTask (passed.Ends end) = Unit {0}
