-- The numbers by which a line is declined.
use Rattle.std.specs.Prelude.{Ok, Err, Result}
use Rattle.entry.specs.declared.fault.Decline.{Decline}
use Rattle.entry.specs.declared.fault.LineFault.{LineFault}
use Rattle.entry.specs.declared.fault.LineFault.TheVariants.{Figure, Form}

-- layer 1 is the figure and declines as 1 where the figure begins,
-- layer 2 is the line and declines as 2 where what is at fault begins or should begin
abbrev pub decline_of : LineFault → Decline
decline_of (Figure f) = record { number = 1; layer = 1; at = f.at; short = 0 }
decline_of (Form column) = record { number = 2; layer = 2; at = column; short = 0 }

abbrev pub map_err : {A E F : Type 0} → (E → F) → Result A E → Result A F
map_err f (Ok x) = Ok x
map_err f (Err e) = Err (f e)
