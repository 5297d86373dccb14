use Rattle.std.proofs.Common.{◌≡◌, ◌^◌, ◌<◌, drop}
use Rattle.figure.specs.Figure.{numbered}
use Rattle.figure.proofs.number.Given as goal

-- what is left gives the result
abbrev pub invariant-loop-byte : goal.invariant-loop-byte
invariant-loop-byte l = record { below : l.value < 10 ^ l.byte-index; left : numbered l.value (drop l.byte-index l.bytes) ≡ numbered 0 l.bytes }
