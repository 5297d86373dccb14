-- Each word's function answers for that word.
use Rattle.entry.proofs.read_rest.Goals as goal

pub returns-in-Product : goal.returns-in-Product
returns-in-Product c = rw c.in-Product.is c.product_line.ensures

pub returns-in-Contract : goal.returns-in-Contract
returns-in-Contract c = rw c.in-Contract.is c.contract_line.ensures

pub returns-in-Announce : goal.returns-in-Announce
returns-in-Announce c = rw c.in-Announce.is c.announce_line.ensures

pub returns-in-Band : goal.returns-in-Band
returns-in-Band c = rw c.in-Band.is c.band_line.ensures

pub returns-in-Spot : goal.returns-in-Spot
returns-in-Spot c = rw c.in-Spot.is c.spot_line.ensures

pub returns-in-Mark : goal.returns-in-Mark
returns-in-Mark c = rw c.in-Mark.is c.mark_line.ensures

pub returns-in-Deposit : goal.returns-in-Deposit
returns-in-Deposit c = rw c.in-Deposit.is c.deposit_line.ensures

pub returns-in-Withdraw : goal.returns-in-Withdraw
returns-in-Withdraw c = rw c.in-Withdraw.is c.withdraw_line.ensures

pub returns-in-Cancel : goal.returns-in-Cancel
returns-in-Cancel c = rw c.in-Cancel.is c.cancel_line.ensures

pub returns-in-Order : goal.returns-in-Order
returns-in-Order c = rw c.in-Order.is c.order_line.ensures

pub returns-in-Fill : goal.returns-in-Fill
returns-in-Fill c = rw c.in-Fill.is c.fill_line.ensures

pub returns-in-Open : goal.returns-in-Open
returns-in-Open c = rw c.in-Open.is c.enters.ensures

pub returns-in-Close : goal.returns-in-Close
returns-in-Close c = rw c.in-Close.is c.enters-in-Close.ensures

pub returns-in-Deadline : goal.returns-in-Deadline
returns-in-Deadline c = rw c.in-Deadline.is c.enters-in-Deadline.ensures

pub returns-in-Report : goal.returns-in-Report
returns-in-Report c = rw c.in-Report.is c.says.ensures
