-- The price list, to the cent.
--   Invoice   a line of the list, what a constraint costs, discount and rounding, and the refusals
--   Examples  computed
pub mod Invoice
pub mod Examples
