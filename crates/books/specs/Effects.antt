-- What a taken entry makes of the books, and the books after any entry. Assumes nothing.
use Rattle.std.specs.Prelude.{ℕ, ◌+◌, ◌*◌, cond, List, [], ◌∷◌, ◌++◌, ℤ, pos, ◌+ℤ◌, ◌-ℤ◌, int_le, int_lt}
use Rattle.entry.specs.Entries.{Said, lists_product, lists_contract, announces, sets_band, sets_spot, sets_mark, deposits, withdraws, cancels, orders, fills, opens, closes, ends_deadline}
use Rattle.entry.specs.declared.types.Kind.{Kind}
use Rattle.entry.specs.declared.types.Right.{Right}
use Rattle.entry.specs.declared.types.Effect.{Effect}
use Rattle.entry.specs.declared.types.Effect.TheVariants.{Opening, Closing}
use Rattle.entry.specs.declared.types.Terms.{Terms}
use Rattle.margin_rule.specs.Meanings.{Meaning}
use Rattle.books.specs.declared.phase.Call.{Call}
use Rattle.books.specs.declared.phase.Call.TheVariants.{NoCall, Standing, Overdue}
use Rattle.books.specs.declared.rows.Contract.{Contract}
use Rattle.books.specs.declared.rows.Lots.{Lots}
use Rattle.books.specs.declared.rows.Order.{Order}
use Rattle.books.specs.declared.rows.Position.{Position}
use Rattle.books.specs.declared.rows.Product.{Product}
use Rattle.books.specs.Names.{name_of}
use Rattle.books.specs.Lots.{left, part}
use Rattle.books.specs.Market.{Market, Prices, by_side, product_of, product_named, contract_named, changed_at, no_product, no_contract, marks, option_tick, tax_of}
use Rattle.books.specs.Books.{Books, ordered, numbered, closable, next_phase, at_regular_close}
use Rattle.books.specs.Figures.{results, equity, initial_need, maintenance_need, surcharge_of}
use Rattle.books.specs.Tests.{Answer, taken, declined, answer, place_of, order_by}

-- ---- the market
abbrev pub listed_product : List ℕ → Kind → ℕ → Terms → ℕ → Product
listed_product name kind tick terms spot = record { name = name_of name; kind = kind; tick = tick; terms = terms; spot = spot }

abbrev pub listed_contract : List ℕ → ℕ → Right → ℕ → ℕ → ℕ → ℕ → Contract
listed_contract name product right strike floor ceiling mark =
    record { name = name_of name; product = product; right = right; strike = strike; floor = floor; ceiling = ceiling; mark = mark }

abbrev pub with_terms : Terms → Product → Product
with_terms terms p = record { name = p.name; kind = p.kind; tick = p.tick; terms = terms; spot = p.spot }

abbrev pub with_spot : ℕ → Product → Product
with_spot spot p = record { name = p.name; kind = p.kind; tick = p.tick; terms = p.terms; spot = spot }

abbrev pub with_band : ℕ → ℕ → Contract → Contract
with_band floor ceiling c =
    record { name = c.name; product = c.product; right = c.right; strike = c.strike; floor = floor; ceiling = ceiling; mark = c.mark }

abbrev pub with_mark : ℕ → Contract → Contract
with_mark mark c =
    record { name = c.name; product = c.product; right = c.right; strike = c.strike; floor = c.floor; ceiling = c.ceiling; mark = mark }

abbrev pub market_after : Market → Said → Market
market_after m (lists_product name kind tick terms spot) =
    record { products = m.products ++ listed_product name kind tick terms spot ∷ []; contracts = m.contracts }
market_after m (lists_contract name product right strike floor ceiling mark) =
    record { products = m.products; contracts = m.contracts ++ listed_contract name (place_of (product_named m product)) right strike floor ceiling mark ∷ [] }
market_after m (announces name terms) =
    record { products = changed_at no_product m.products (product_named m name) (with_terms terms); contracts = m.contracts }
market_after m (sets_band contract floor ceiling) =
    record { products = m.products; contracts = changed_at no_contract m.contracts (contract_named m contract) (with_band floor ceiling) }
market_after m (sets_spot product price) =
    record { products = changed_at no_product m.products (product_named m product) (with_spot price); contracts = m.contracts }
market_after m (sets_mark contract price) =
    record { products = m.products; contracts = changed_at no_contract m.contracts (contract_named m contract) (with_mark price) }
market_after m (deposits amount) = m
market_after m (withdraws amount) = m
market_after m (cancels order) = m
market_after m (orders contract side effect lots price) = m
market_after m (fills order lots price) = m
market_after m opens = m
market_after m closes = m
market_after m ends_deadline = m

-- ---- a fill of so many lots of an order at a price
-- a line at the end, or lots of the other side closed, the oldest first
abbrev pub opened_line : Order → ℕ → ℕ → Lots Position
opened_line o lots price = record { of = record { contract = o.contract; side = o.side; entry = price; base = price }; count = lots }

abbrev pub lines_filled : Order → ℕ → ℕ → Effect → List (Lots Position) → List (Lots Position)
lines_filled o lots price Opening ls = ls ++ opened_line o lots price ∷ []
lines_filled o lots price Closing ls = left (closable o) lots ls

-- what the closed futures lots pay
abbrev pub realised : Market → Order → ℕ → ℕ → Effect → List (Lots Position) → ℤ
realised m o lots price Opening ls = pos 0
realised m o lots price Closing ls = results m (λ c. price) (part (closable o) lots ls)

-- the premium of the lots of an option, received by whoever sells and paid by whoever buys
abbrev pub premium_in : Market → Order → ℕ → ℕ → ℕ
premium_in m o lots price = by_side o.side 0 (lots * (price * option_tick m o.contract))

abbrev pub premium_out : Market → Order → ℕ → ℕ → ℕ
premium_out m o lots price = by_side o.side (lots * (price * option_tick m o.contract)) 0

abbrev pub fees_of : Market → Order → ℕ → ℕ
fees_of m o lots = lots * (product_of m o.contract).terms.fee

abbrev pub taxes_of : Market → Order → ℕ → ℕ → ℕ
taxes_of m o lots price = lots * tax_of price (product_of m o.contract).tick (product_of m o.contract).terms.tax

abbrev pub balance_filled : Books → Order → ℕ → ℕ → ℤ
balance_filled b o lots price =
    b.balance +ℤ realised b.market o lots price o.effect b.lines
    +ℤ pos (premium_in b.market o lots price) -ℤ pos (premium_out b.market o lots price)
    -ℤ pos (fees_of b.market o lots) -ℤ pos (taxes_of b.market o lots price)

-- ---- the regular close
abbrev pub rebased : Prices → List (Lots Position) → List (Lots Position)
rebased price [] = []
rebased price (l ∷ ls) =
    record { of = record { contract = l.of.contract; side = l.of.side; entry = l.of.entry; base = price l.of.contract }; count = l.count } ∷ rebased price ls

-- a call below maintenance; an overdue one is kept below initial
abbrev pub called_below : ℤ → ℕ → Call
called_below equity maintenance = cond (int_lt equity (pos maintenance)) Standing NoCall

abbrev pub call_at_close : Call → ℤ → ℕ → ℕ → Call
call_at_close Overdue equity initial maintenance = cond (int_lt equity (pos initial)) Overdue (called_below equity maintenance)
call_at_close Standing equity initial maintenance = called_below equity maintenance
call_at_close NoCall equity initial maintenance = called_below equity maintenance

-- ---- every taken entry: each field of the books after it
abbrev pub with_market : Books → Market → Books
with_market b m = record { balance = b.balance; surcharge = b.surcharge; given = b.given; phase = b.phase; call = b.call; market = m; orders = b.orders; lines = b.lines }

abbrev pub with_balance : Books → ℤ → Books
with_balance b x = record { balance = x; surcharge = b.surcharge; given = b.given; phase = b.phase; call = b.call; market = b.market; orders = b.orders; lines = b.lines }

abbrev pub with_orders : Books → List (Lots Order) → Books
with_orders b os = record { balance = b.balance; surcharge = b.surcharge; given = b.given; phase = b.phase; call = b.call; market = b.market; orders = os; lines = b.lines }

abbrev pub with_order : Books → Lots Order → Books
with_order b o = record { balance = b.balance; surcharge = b.surcharge; given = b.given + 1; phase = b.phase; call = b.call; market = b.market; orders = b.orders ++ o ∷ []; lines = b.lines }

abbrev pub filled : Books → ℕ → Order → ℕ → ℕ → Books
filled b n o lots price = record {
  balance = balance_filled b o lots price;
  surcharge = b.surcharge;
  given = b.given;
  phase = b.phase;
  call = b.call;
  market = b.market;
  orders = left (numbered n) lots b.orders;
  lines = lines_filled o lots price o.effect b.lines;
}

abbrev pub opened : Books → Books
opened b = record { balance = b.balance; surcharge = b.surcharge; given = b.given; phase = next_phase b.phase; call = b.call; market = b.market; orders = b.orders; lines = b.lines }

-- orders end; a regular close settles too
abbrev pub closed : Meaning → Books → Books
closed rule b = record {
  balance = b.balance;
  surcharge = at_regular_close b.phase (surcharge_of b.market b.lines) b.surcharge;
  given = b.given;
  phase = next_phase b.phase;
  call = at_regular_close b.phase (call_at_close b.call (equity b) (initial_need rule b) (maintenance_need rule b)) b.call;
  market = b.market;
  orders = [];
  lines = at_regular_close b.phase (rebased (marks b.market) b.lines) b.lines;
}

-- the deadline of a call lifts it or makes it overdue
abbrev pub deadlined : Meaning → Books → Books
deadlined rule b = record {
  balance = b.balance;
  surcharge = b.surcharge;
  given = b.given;
  phase = b.phase;
  call = cond (int_le (pos (initial_need rule b)) (equity b)) NoCall Overdue;
  market = b.market;
  orders = b.orders;
  lines = b.lines;
}

abbrev pub effect_of : Meaning → Books → Said → Books
effect_of rule b (lists_product name kind tick terms spot) = with_market b (market_after b.market (lists_product name kind tick terms spot))
effect_of rule b (lists_contract name product right strike floor ceiling mark) = with_market b (market_after b.market (lists_contract name product right strike floor ceiling mark))
effect_of rule b (announces name terms) = with_market b (market_after b.market (announces name terms))
effect_of rule b (sets_band contract floor ceiling) = with_market b (market_after b.market (sets_band contract floor ceiling))
effect_of rule b (sets_spot product price) = with_market b (market_after b.market (sets_spot product price))
effect_of rule b (sets_mark contract price) = with_market b (market_after b.market (sets_mark contract price))
effect_of rule b (deposits amount) = with_balance b (b.balance +ℤ pos amount)
effect_of rule b (withdraws amount) = with_balance b (b.balance -ℤ pos amount)
effect_of rule b (cancels order) = with_orders b (left (numbered order) (order_by b order).count b.orders)
effect_of rule b (orders contract side effect lots price) =
    with_order b (record { of = ordered (b.given + 1) (place_of (contract_named b.market contract)) side effect price; count = lots })
effect_of rule b (fills order lots price) = filled b order (order_by b order).of lots price
effect_of rule b opens = opened b
effect_of rule b closes = closed rule b
effect_of rule b ends_deadline = deadlined rule b

-- a decline leaves the books alone
abbrev pub settled : Books → Books → Answer → Books
settled b done (taken n) = done
settled b done (declined number short) = b

abbrev pub after : Meaning → Books → Said → Books
after rule b e = settled b (effect_of rule b e) (answer rule b e)
