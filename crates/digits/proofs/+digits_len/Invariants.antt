-- The quotient by ten is smaller than the number.
use Rattle.digits.proofs.+digits_len.Given as goal

abbrev pub decreases-digits_len : goal.decreases-digits_len
decreases-digits_len l = l.n
