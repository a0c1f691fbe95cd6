use Rattle.std.proofs.Common.{◌≡◌}
use Rattle.section.specs.Section.{words_over}
use Rattle.section.proofs.lay_words.Given as goal

-- lay_words: the words so far are laid.
abbrev pub invariant-loop-i : goal.invariant-loop-i
invariant-loop-i l = l.words ≡ words_over l.i l.bytes l.initial.words
