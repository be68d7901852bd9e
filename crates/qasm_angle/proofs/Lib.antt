-- What the files hold:
-- Values: What symbols are, by the reading that takes them one after another, is their value, and they have no other.
-- Numbers: A number of few digits is small.
pub mod Values
pub mod Numbers
