use Rattle.lines.proofs.Text.+put_number.Given as goal

-- the measure is the number
abbrev pub decreases-put_number : goal.decreases-put_number
decreases-put_number l = l.number
