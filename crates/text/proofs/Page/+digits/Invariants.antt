-- `text::Page::digits` calls itself with a tenth of its number. Assumes nothing.
use Rattle.text.proofs.Page.+digits.Given as goal

abbrev pub decreases-digits : goal.decreases-digits
decreases-digits l = l.n
