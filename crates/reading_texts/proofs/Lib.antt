mod Items
mod TextErrors
mod DoubledTold
