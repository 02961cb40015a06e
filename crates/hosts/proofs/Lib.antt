-- Laws of the calls on lent words.
mod LentCalls
