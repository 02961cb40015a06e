-- Laws of the part of a screen that is lent, and of the numbers that are no refusal's.
mod Onto
mod Statuses
