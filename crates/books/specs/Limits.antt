-- Every limit of an account, by name. Assumes nothing.
use Rattle.std.specs.Prelude.{ℕ, Bool, ◌&&◌, nat_le}

-- how much an account holds
abbrev pub most_products : ℕ
most_products = 8

abbrev pub most_contracts : ℕ
most_contracts = 32

abbrev pub most_orders : ℕ
most_orders = 64

abbrev pub most_lines : ℕ
most_lines = 512

-- orders given in its life
abbrev pub most_given : ℕ
most_given = 10000

-- the bytes of a name
abbrev pub longest_name : ℕ
longest_name = 8

-- the lots of one order or fill, and so of one line
abbrev pub most_lots_of_one : ℕ
most_lots_of_one = 100

-- what is published of a product; ia, ib, ma and mb are margins
abbrev pub highest_tick : ℕ
highest_tick = 10000

abbrev pub highest_fee : ℕ
highest_fee = 10000

abbrev pub highest_tax : ℕ
highest_tax = 1000

abbrev pub highest_position_limit : ℕ
highest_position_limit = 100000

abbrev pub highest_share : ℕ
highest_share = 100

abbrev pub highest_margin : ℕ
highest_margin = 50000000

-- strikes, and the spots of options
abbrev pub highest_strike : ℕ
highest_strike = 10000000

-- what a lot is worth at the ceiling of its band
abbrev pub highest_worth : ℕ
highest_worth = 50000000

-- what is deposited or withdrawn at once, and what a deposit may bring the balance to
abbrev pub highest_amount : ℕ
highest_amount = 1000000000000

abbrev pub highest_balance : ℕ
highest_balance = 100000000000000

abbrev pub within : ℕ → ℕ → ℕ → Bool
within low high x = nat_le low x && nat_le x high
