-- `Writer::digits` ends: each call of itself puts one digit less.
use Rattle.report.proofs.writer.Writer.+digits.Given as goal

abbrev pub decreases-digits : goal.decreases-digits
decreases-digits l = l.k
