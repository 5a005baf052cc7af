-- To be read in this order.
mod Totals
