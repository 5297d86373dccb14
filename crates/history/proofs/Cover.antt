-- Available is covered: each taken entry lowers it by no more than its fall, or its fee and tax, or leaves it at 0 or above.
use Rattle.std.proofs.Common.{◌≡◌, ℕ, ◌+◌, Bool, true, false, cond, List, ℤ, pos, ◌+ℤ◌, ◌-ℤ◌, ◌≤ℤ◌, refl, arith}
use borrow.Author.Differences.{up}
use Rattle.std.proofs.lemmas.Int.{ints}
use Rattle.std.proofs.lemmas.Bool.{leb-true, eqb-true}
use Rattle.entry.specs.Entries.{Said, lists_product, lists_contract, sets_band, withdraws, cancels, orders, fills, closes}
use Rattle.entry.specs.declared.types.Effect.TheVariants.{Opening}
use Rattle.margin_rule.specs.Meanings.{Meaning}
use Rattle.margin_rule.specs.Laws.{Laws}
use Rattle.books.specs.declared.phase.Phase.{Phase}
use Rattle.books.specs.Market.{Market, marks, worse, product_named, contract_named}
use Rattle.books.specs.Books.{Books, ordered, numbered, at_regular_close}
use Rattle.books.specs.Figures.{lot_reserve, available, surcharge_of}
use Rattle.books.specs.Tests.{tests, order_by, place_of}
use Rattle.books.specs.Effects.{effect_of, with_market, listed_product, listed_contract, closed, rebased}
use Rattle.books.specs.Sound.{Sound}
use Rattle.history.specs.Histories.{Event, Told, tells, phase_of, of_fills, fees_in, taxes_in, falls, fees, taxes}
use Rattle.history.proofs.Tested.{Passed}
use Rattle.history.proofs.Sums.{weigh-push, weigh-left_le}
use Rattle.history.proofs.Extending.{Extends, refers, extends_available}
use Rattle.history.proofs.Markets.{product_extends, contract_extends, band_extends}
use Rattle.history.proofs.Agreement.{MarketsAgree, OrdersAgree}
use Rattle.history.proofs.Filling.{fill_available}
use Rattle.history.proofs.Standing.{order_first, order_closes, fees_known, taxes_known}

-- falls, fees and taxes cover what available lacks
abbrev pub Covered : ℤ → ℕ → ℕ → ℕ → Type 0
Covered available falls fees taxes = pos 0 ≤ℤ (available +ℤ pos (falls + fees + taxes))

-- ---- each taken entry
-- what covers the books after, where the fall counts or does not
abbrev pub Covers : Meaning → List Event → Books → Told → Books → Type 0
Covers rule h b t b' = Covered (available rule b') (cond t.session.falls (up (available rule b -ℤ available rule b')) 0 + falls h) (of_fills fees_in h t + fees h) (of_fills taxes_in h t + taxes h)

-- a close that is no regular one settles nothing
unsettled : {A : Type 0} (phase : Phase) (x y : A) → at_regular_close phase true false ≡ false → at_regular_close phase x y ≡ y
unsettled phase x y e = grind arith

module _ (rule : Meaning) (laws : Laws rule) (h : List Event) (b : Books) (s : Sound b) (phase : phase_of h ≡ b.phase) (a : MarketsAgree h b.market) (os : OrdersAgree h b.market b.orders) (covered : Covered (available rule b) (falls h) (fees h) (taxes h)) where
  -- a close that is no regular one only frees what orders reserve
  ended : at_regular_close b.phase true false ≡ false → available rule b ≤ℤ available rule (closed rule b)
  ended f = rw (unsettled b.phase (rebased (marks b.market) b.lines) b.lines f, unsettled b.phase (surcharge_of b.market b.lines) b.surcharge f) (omega (arith, ints))

  -- and what a regular one lowers counts
  ended_covered : (regular : Bool) → at_regular_close b.phase true false ≡ regular →
      Covered (available rule (closed rule b)) (cond regular (up (available rule b -ℤ available rule (closed rule b))) 0 + falls h) (0 + fees h) (0 + taxes h)
  ended_covered true f = omega (arith, ints, covered)
  ended_covered false f = omega (arith, ints, covered, ended f)

  -- a market that extends the old one
  extended : {m : Market} → Extends b.market m → Covered (available rule (with_market b m)) (0 + falls h) (0 + fees h) (0 + taxes h)
  extended x = let kept = extends_available b (refers b s) _ x rule laws in omega (arith, ints, covered)

  pub cover_step : (e : Said) → Passed (tests rule b e) → Covers rule h b (tells (phase_of h) e) (effect_of rule b e)
  cover_step (lists_product name kind tick terms spot) p = extended (product_extends b.market (listed_product name kind tick terms spot))
  cover_step (lists_contract name product right strike floor ceiling mark) p = extended (contract_extends b.market (listed_contract name (place_of (product_named b.market product)) right strike floor ceiling mark))
  cover_step (sets_band contract floor ceiling) p = extended (band_extends b.market (contract_named b.market contract) floor ceiling)
  cover_step (withdraws amount) p = omega (arith, ints, p.1.0)
  cover_step (cancels order) p = omega (arith, ints, covered, weigh-left_le (lot_reserve rule b.market) (numbered order) (order_by b order).count b.orders)
  cover_step (orders contract side Opening lots price) p =
      let o = ordered (b.given + 1) (place_of (contract_named b.market contract)) side Opening price in
      omega (arith, ints, p.1.1.1.1.1.1.1.0, weigh-push (lot_reserve rule b.market) b.orders (record { of = o; count = lots }))
  cover_step (fills order lots price) p =
      let known = p.1.0 in
      let enough = leb-true lots (order_by b order).count p.1.1.1.1.1.0 in
      let o = (order_by b order).of in
      let kept = fill_available rule laws b order lots price (order_by b order) (order_first b order known) (eqb-true (worse o.side price o.limit) 0 p.1.1.1.1.0) enough (order_closes b order known s lots enough) in
      omega (arith, ints, covered, fees_known b order known h s a os lots price, taxes_known b order known h s a os lots price)
  cover_step closes p = rw phase (ended_covered (at_regular_close b.phase true false) refl)
  cover_step e p = omega (arith, ints, covered)
