-- Runs of an account, and the law over every one of them. Assumes nothing.
use Rattle.std.specs.Prelude.{◌≡◌, ◌+◌, Bool, true, false, List, [], ◌∷◌, pos, ◌+ℤ◌, ◌-ℤ◌, ◌≤ℤ◌, ◌<ℤ◌}
use Rattle.std.specs.List.{AllByRecursion}
use Rattle.entry.specs.Entries.{Said, lists_product, lists_contract, announces, sets_band, sets_spot, sets_mark, deposits, withdraws, cancels, orders, fills, opens, closes, ends_deadline}
use Rattle.margin_rule.specs.Meanings.{Meaning}
use Rattle.margin_rule.specs.Laws.{Laws}
use Rattle.books.specs.Books.{Books, new, by_effect}
use Rattle.books.specs.Figures.{Figures, figures}
use Rattle.books.specs.Tests.{Answer, taken, declined, answer}
use Rattle.books.specs.Effects.{after}
use Rattle.history.specs.Histories.{Event, told_by, cash_in_of, cash_out_of, fees, taxes, received, paid, measured, mark_of, falls}

-- ---- runs
abbrev pub event : Meaning → Books → Said → Answer → Books → Event
event rule b e x b' = record { entry = e; answer = x; before = figures rule b; after = figures rule b' }

-- a new account runs through nothing; one entry more, taken or declined, runs on
pub data Ran (rule : Meaning) : List Event → Books → Type 0 where
  begins : Ran rule [] new
  enters : {h : List Event} {b : Books} → Ran rule h b → (e : Said) → Ran rule (event rule b e (answer rule b e) (after rule b e) ∷ h) (after rule b e)

-- the books after a list of entries, entered in its order, and the history of it
abbrev pub entered_into : Meaning → Books → List Said → Books
entered_into rule b [] = b
entered_into rule b (e ∷ es) = entered_into rule (after rule b e) es

abbrev pub history_into : Meaning → Books → List Event → List Said → List Event
history_into rule b h [] = h
history_into rule b h (e ∷ es) = history_into rule (after rule b e) (event rule b e (answer rule b e) (after rule b e) ∷ h) es

-- ---- the law
-- withdrawals and opening orders
abbrev pub draws : Said → Bool
draws (lists_product name kind tick terms spot) = false
draws (lists_contract name product right strike floor ceiling mark) = false
draws (announces name terms) = false
draws (sets_band contract floor ceiling) = false
draws (sets_spot product price) = false
draws (sets_mark contract price) = false
draws (deposits amount) = false
draws (withdraws amount) = true
draws (cancels order) = false
draws (orders contract side effect lots price) = by_effect effect true false
draws (fills order lots price) = false
draws opens = false
draws closes = false
draws ends_deadline = false

abbrev pub Declined : Answer → Type 0
Declined (taken n) = ⊥
Declined (declined number short) = Unit {0}

abbrev pub RefusedBelowMaintenance : Event → Type 0
RefusedBelowMaintenance e = draws e.entry ≡ true → e.before.equity <ℤ pos e.before.maintenance → Declined e.answer

-- a regular close leaves no gain, since each base is then the mark; nothing else moves the surcharge
abbrev pub Settles : Bool → Event → Type 0
Settles true e = e.after.gain ≡ 0
Settles false e = e.after.surcharge ≡ e.before.surcharge

abbrev pub SettledAtRegularCloses : List Event → Type 0
SettledAtRegularCloses [] = Unit {0}
SettledAtRegularCloses (e ∷ h) = Settles (told_by h e).session.settles e × SettledAtRegularCloses h

-- of a history and what a report shows at its end
pub record Law (h : List Event) (now : Figures) : Type 0 where
  -- available is never further below zero than the falls, fees and taxes add up to
  pub available_is_covered : pos 0 ≤ℤ (now.available +ℤ pos (falls h + fees h + taxes h))
  -- equity is cash in less cash out, fees and taxes, plus futures fills measured to the marks, plus premiums received less paid
  pub equity_is_cash_and_fills : now.equity ≡ (pos (cash_in_of h) -ℤ pos (cash_out_of h) -ℤ pos (fees h) -ℤ pos (taxes h) +ℤ measured (mark_of h) h +ℤ pos (received h) -ℤ pos (paid h))
  -- wherever an opening order or a withdrawal came while equity was below the maintenance need, it was declined
  pub refused_below_maintenance : AllByRecursion RefusedBelowMaintenance h
  pub settled_at_regular_closes : SettledAtRegularCloses h
  pub den_is_not_negative : pos 0 ≤ℤ now.den

-- under every margin rule that keeps the laws of margin rules
abbrev pub EveryRunIsLawful : Type 0
EveryRunIsLawful = (rule : Meaning) → Laws rule → (h : List Event) (b : Books) → Ran rule h b → Law h (figures rule b)

-- so with no history assumed: a new account, and any list of entries
abbrev pub EveryListIsLawful : Type 0
EveryListIsLawful = (rule : Meaning) → Laws rule → (es : List Said) → Law (history_into rule new [] es) (figures rule (entered_into rule new es))

-- so of a call that took the books b to b' by the entry e with the answer x: every history that ran to b ran with this event to b',
-- and the law holds of it
abbrev pub RunsOn : Meaning → Books → Said → Answer → Books → Type 0
RunsOn rule b e x b' = (h : List Event) → Ran rule h b → Ran rule (event rule b e x b' ∷ h) b' × Law (event rule b e x b' ∷ h) (figures rule b')

abbrev pub EveryEntryRunsOn : Type 0
EveryEntryRunsOn = (rule : Meaning) → Laws rule → (b : Books) (e : Said) (x : Answer) (b' : Books) → x ≡ answer rule b e → b' ≡ after rule b e → RunsOn rule b e x b'
