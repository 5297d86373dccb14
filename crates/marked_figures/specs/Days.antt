-- Days of a new account, entry by entry, and the books after them. Assumes nothing.
use Rattle.std.specs.Prelude.{List, [], ◌∷◌, codes}
use Rattle.entry.specs.Entries.{Said, lists_product, lists_contract, sets_mark, deposits, orders, fills, opens}
use Rattle.entry.specs.declared.types.Kind.TheVariants.{Futures, Options}
use Rattle.entry.specs.declared.types.Right.TheVariants.{Neither, Call}
use Rattle.entry.specs.declared.types.Side.TheVariants.{Sell}
use Rattle.entry.specs.declared.types.Effect.TheVariants.{Opening}
use Rattle.margin_rule.specs.Meanings.{Meaning}
use Rattle.books.specs.Books.{Books, new}
use Rattle.history.specs.Law.{entered_into}
use Rattle.marked_figures.specs.Rows.{future_terms, call_terms}

abbrev pub after_day : Meaning → List Said → Books
after_day rule day = entered_into rule new day

-- 150,000 dollars; five calls sold to open at 1,400, and marked 2,000
abbrev pub call_day : List Said
call_day =
    lists_product (codes "TXO") Options 5 call_terms 79800
    ∷ lists_contract (codes "TXOC") (codes "TXO") Call 78500 1 5000 1400
    ∷ deposits 150000
    ∷ opens
    ∷ orders (codes "TXOC") Sell Opening 5 1400
    ∷ fills 1 5 1400
    ∷ sets_mark (codes "TXOC") 2000
    ∷ []

-- a dollar less than one future asks for, up to the open, and the order of that future
abbrev pub future_morning : List Said
future_morning =
    lists_product (codes "TX") Futures 200 future_terms 0
    ∷ lists_contract (codes "TXB") (codes "TX") Neither 0 7000 8200 7600
    ∷ deposits 82999
    ∷ opens
    ∷ []

abbrev pub future_sold : Said
future_sold = orders (codes "TXB") Sell Opening 1 7600
