-- The numbers of phases, calls, notices, dues and declines, and a decline's missing dollars. Assumes nothing.
use Rattle.std.specs.Prelude.{ℕ}
use Rattle.books.specs.declared.phase.Phase.{Phase}
use Rattle.books.specs.declared.phase.Phase.TheVariants.{Before, Regular, Settled, AfterHours}
use Rattle.books.specs.declared.phase.Call.{Call}
use Rattle.books.specs.declared.phase.Call.TheVariants.{NoCall, Standing, Overdue}
use Rattle.books.specs.declared.report.Notice.{Notice}
use Rattle.books.specs.declared.report.Notice.TheVariants.{Quiet, HighRisk, CallStands, CallOverdue}
use Rattle.books.specs.declared.report.Due.{Due}
use Rattle.books.specs.declared.report.Due.TheVariants.{NotDue, IndicatorLow, CallMissed}
use Rattle.books.specs.declared.refusal.Refusal.{Refusal}
use Rattle.books.specs.declared.refusal.Refusal.TheVariants.{WrongPhase, Unknown, InUse, OutOfRange, OutsideBand, TooManyLots, NoRoom, Short, CallStands as CallInTheWay, SmallBuffer}

-- before the regular session, regular, settled, after-hours
abbrev pub phase_number : Phase → ℕ
phase_number Before = 0
phase_number Regular = 1
phase_number Settled = 2
phase_number AfterHours = 3

abbrev pub call_number : Call → ℕ
call_number NoCall = 0
call_number Standing = 1
call_number Overdue = 2

abbrev pub notice_number : Notice → ℕ
notice_number Quiet = 0
notice_number HighRisk = 1
notice_number CallStands = 2
notice_number CallOverdue = 3

abbrev pub due_number : Due → ℕ
due_number NotDue = 0
due_number IndicatorLow = 1
due_number CallMissed = 2

-- 1 and 2 are the figure's and the line's
abbrev pub refusal_number : Refusal → ℕ
refusal_number WrongPhase = 3
-- a name, a standing order or a standing call
refusal_number Unknown = 4
-- a name in use, or its table full
refusal_number InUse = 5
refusal_number OutOfRange = 6
-- a price outside the band, or a fill worse than its limit
refusal_number OutsideBand = 7
-- a fill above the standing lots, or closing lots above those not held for closing orders
refusal_number TooManyLots = 8
-- orders standing, orders given, lines of lots
refusal_number NoRoom = 9
-- a reservation or an amount above available
refusal_number (Short dollars) = 10
-- a regular close with a call standing
refusal_number CallInTheWay = 11
-- a report into too small a buffer
refusal_number SmallBuffer = 12

abbrev pub refusal_short : Refusal → ℕ
refusal_short WrongPhase = 0
refusal_short Unknown = 0
refusal_short InUse = 0
refusal_short OutOfRange = 0
refusal_short OutsideBand = 0
refusal_short TooManyLots = 0
refusal_short NoRoom = 0
refusal_short (Short dollars) = dollars
refusal_short CallInTheWay = 0
refusal_short SmallBuffer = 0
