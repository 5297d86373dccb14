-- How far the figures of sound books go under a rule that keeps its laws.
use Rattle.std.proofs.Common.{◌≡◌, ℕ, ◌+◌, ◌-◌, ◌*◌, ◌<◌, ◌≤◌, Bool, List, [], ◌∷◌, ◌++◌, length, get_or, refl, mul-le-mul_right, mul_comm, mul-le-mul_left, arith}
use Rattle.std.proofs.ByRecursion.{All-from_get_or}
use Rattle.std.proofs.lemmas.List.{append_assoc, append-nil}
use Rattle.std.proofs.lemmas.Int.{ints}
use Rattle.std.specs.List.{AllByRecursion}
use Rattle.entry.specs.declared.types.Kind.{Kind}
use Rattle.entry.specs.declared.types.Side.{Side}
use Rattle.entry.specs.declared.types.Side.TheVariants.{Buy, Sell}
use Rattle.entry.specs.declared.types.Effect.{Effect}
use Rattle.margin_rule.specs.Meanings.{Meaning, asked}
use Rattle.margin_rule.specs.Laws.{Laws}
use Rattle.margin_rule.specs.Bounds.{highest_lot}
use Rattle.margin_rule.proofs.Following.{everywhere}
use Rattle.books.specs.declared.rows.Lots.{Lots}
use Rattle.books.specs.declared.rows.Order.{Order}
use Rattle.books.specs.declared.rows.Position.{Position}
use Rattle.books.specs.Limits.{most_lots_of_one, highest_worth}
use Rattle.books.specs.Lots.{weigh, all_lots, one_if}
use Rattle.books.specs.Market.{Market, Prices, Level, initially, to_maintain, by_kind, by_side, same_side, product_of, product_at, marks, futures_tick, option_tick, worse}
use Rattle.books.specs.Books.{Books, by_effect, no_order}
use Rattle.books.specs.Figures.{futures_need, series_need, needs, equity, lot_gain, gain, lot_reserve, reserved, option_value, figures}
use Rattle.books.specs.Sound.{Sound, FiguresFit, no_line, most_needed, most_reserved, most_results}
use Rattle.history.proofs.Sums.{weigh-le, weigh-scale, sum_to-longer}
use Rattle.history.proofs.Needs.{by_kind_zero, needs_opened, lot_share}
use Rattle.history.proofs.KeepsOrders.{lots_within}
use Rattle.history.proofs.KeepsMoney.{Bounded, futures_affordable, options_affordable}
use Rattle.history.proofs.KeepsAccount.{mark_affordable, lots_few, lines_bounded}

-- lots each worth at most so much
weigh-within : {A : Type 0} (u : A → ℕ) (n : ℕ) (xs : List (Lots A)) → AllByRecursion (λ (x : Lots A). u x.of ≤ n) xs → weigh u xs ≤ all_lots xs * n
weigh-within u n xs f = omega (arith, weigh-le u (λ a. n) xs f, weigh-scale n xs)

-- ---- needs
module _ (rule : Meaning) (laws : Laws rule) where
  share_within : (k : Kind) (s : Side) (a r : ℕ) → by_kind k ((asked rule).lot a) (by_side s 0 ((asked rule).lot r)) ≤ highest_lot
  share_within k s a r = let lot = (everywhere rule laws).lot_bounded in let x = lot a in let y = lot r in grind arith

  module _ (m : Market) (level : Level) (price : Prices) where
    needs_none : needs rule m level price [] ≡ 0
    needs_none =
        omega (
          arith,
          sum_to-longer 0 (length m.products) (futures_need rule m level []) (λ i. 0) (omega arith) (λ i l. omega arith) (λ i l. by_kind_zero (product_at m i).kind _ 0 ((everywhere rule laws).none _) refl),
          sum_to-longer 0 (length m.contracts) (series_need rule m level price []) (λ c. 0) (omega arith) (λ c l. omega arith) (λ c l. by_kind_zero (product_of m c).kind 0 _ refl ((everywhere rule laws).none _)),
        )

    needs_more : (xs ys : List (Lots Position)) → needs rule m level price (xs ++ ys) ≤ needs rule m level price xs + all_lots ys * highest_lot
    needs_more xs [] = rw append-nil (omega arith)
    needs_more xs (y ∷ ys) =
        let h = rw append_assoc at (needs_more (xs ++ y ∷ []) ys) in
        let w : lot_share rule m level price y.of ≤ highest_lot = share_within (product_of m y.of.contract).kind y.of.side _ _ in
        omega (arith, h, needs_opened rule laws m level price xs y, mul-le-mul_left y.count w)

    pub needs_within : (ls : List (Lots Position)) → needs rule m level price ls ≤ all_lots ls * highest_lot
    needs_within ls = omega (arith, needs_more [] ls, needs_none)

-- ---- what a lot reserves, gains and is worth
-- the ticks between two prices that a lot may have are worth no more than a lot may be
worse_within : (s : Side) (tick limit mark : ℕ) → limit * tick ≤ highest_worth → mark * tick ≤ highest_worth → tick * worse s limit mark ≤ highest_worth
worse_within Buy tick limit mark h k = let l : limit - mark ≤ limit = omega arith in omega (arith, mul-le-mul_left tick l, mul_comm tick limit)
worse_within Sell tick limit mark h k = let l : mark - limit ≤ mark = omega arith in omega (arith, mul-le-mul_left tick l, mul_comm tick mark)

reserve_within : (k : Kind) (s : Side) (f : Effect) (tick limit mark lot : ℕ) → limit * tick ≤ highest_worth → mark * tick ≤ highest_worth → lot ≤ highest_lot →
    by_kind k (tick * worse s limit mark + by_effect f lot 0) (by_side s (limit * tick) (by_effect f lot 0)) ≤ highest_worth + highest_lot
reserve_within kind s f tick limit mark lot h k l = let w = worse_within s tick limit mark h k in grind arith

counted_within : (t : Bool) (n most : ℕ) → n ≤ most → one_if t * n ≤ most
counted_within t n most h = grind arith

-- ---- every figure
module _ (rule : Meaning) (laws : Laws rule) (b : Books) (s : Sound b) where
  held_lots : all_lots b.lines ≤ 51200
  held_lots = lots_few b s

  of_lines : (u : Position → ℕ) (n : ℕ) → ((i : ℕ) → i < length b.lines → u (get_or b.lines i no_line).of ≤ n) → weigh u b.lines ≤ 51200 * n
  of_lines u n f = omega (arith, weigh-within u n b.lines (All-from_get_or (λ l. u l.of ≤ n) b.lines no_line f), mul-le-mul_right n held_lots)

  standing_lots : all_lots b.orders ≤ 6400
  standing_lots = omega (
    arith,
    s.orders_few,
    lots_within most_lots_of_one b.orders (All-from_get_or (λ o. o.count ≤ most_lots_of_one) b.orders no_order (λ i l. (s.orders i l).1.1)),
  )

  needs_fit : (level : Level) → needs rule b.market level (marks b.market) b.lines ≤ most_needed
  needs_fit level = omega (arith, needs_within rule laws b.market level (marks b.market) b.lines, mul-le-mul_right highest_lot held_lots)

  gain_fits : gain b ≤ most_results
  gain_fits =
      of_lines (lot_gain b.market (marks b.market)) highest_worth (λ i l.
      let x = (get_or b.lines i no_line).of in
      let f = s.lines i l in
      let worth = futures_affordable b.market x.contract in
      worse_within x.side (futures_tick b.market x.contract) _ x.base (worth _ (mark_affordable b s x.contract f.0)) (worth x.base f.3))

  reserved_fits : reserved rule b ≤ most_reserved
  reserved_fits =
      let most = highest_worth + highest_lot in
      let all = All-from_get_or (λ (o : Lots Order). lot_reserve rule b.market o.of ≤ most) b.orders no_order (λ i l.
      let o = (get_or b.orders i no_order).of in
      let f = s.orders i l in
      let p = product_of b.market o.contract in
      let marked = mark_affordable b s o.contract f.0 in
      reserve_within p.kind o.side o.effect p.tick o.limit (marks b.market o.contract) _ f.3 marked ((everywhere rule laws).lot_bounded _)) in
      omega (arith, weigh-within (lot_reserve rule b.market) most b.orders all, mul-le-mul_right most standing_lots)

  -- the value of the options of a side
  abbrev value : Side → ℕ
  value side = option_value b.market side (marks b.market) b.lines

  options_fit : (side : Side) → value side ≤ most_results
  options_fit side =
      of_lines (λ l. one_if (same_side l.side side) * (marks b.market l.contract * option_tick b.market l.contract)) highest_worth (λ i l.
      let x = (get_or b.lines i no_line).of in
      let marked = mark_affordable b s x.contract (s.lines i l).0 in
      counted_within (same_side x.side side) _ highest_worth (options_affordable b.market x.contract (marks b.market x.contract) marked))

  balance_bounded : Bounded b.balance 200000000000000
  balance_bounded = let given = s.given_few in let f = s.balance in (omega (arith, ints), omega (arith, ints))

  equity_bounded : Bounded (equity b) (200000000000000 + most_results)
  equity_bounded =
      let balance = balance_bounded in
      let lines = lines_bounded b s in
      let few = mul-le-mul_right highest_worth held_lots in
      (omega (arith, ints), omega (arith, ints))

  pub figures_fit : FiguresFit (figures rule b)
  figures_fit =
      let balance = balance_bounded in
      let equity = equity_bounded in
      let gain = gain_fits in
      let initial = needs_fit initially in
      let reserved = reserved_fits in
      let surcharge = s.surcharge in
      let bought = options_fit Buy in
      let sold = options_fit Sell in
      record {
        balance = (omega (arith, ints), omega (arith, ints));
        equity = (omega (arith, ints), omega (arith, ints));
        gain = gain;
        initial = initial;
        maintenance = needs_fit to_maintain;
        reserved = reserved;
        surcharge = surcharge;
        available = (omega (arith, ints), omega (arith, ints));
        num = (omega (arith, ints), omega (arith, ints));
        den = (omega (arith, ints), omega (arith, ints));
      }
