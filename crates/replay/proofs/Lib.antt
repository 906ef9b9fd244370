mod Compared
mod Cased
