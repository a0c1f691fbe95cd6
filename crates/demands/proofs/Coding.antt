-- Scrambled words come back; calls one after the other are one call.
use mathlib.Core.Path.{sym}
use Rattle.cable.specs.Words.{code_refusal}
use Rattle.cable.proofs.Words.{length_scramble, scramble_range, unscramble_of_scramble, next_of_scramble, scramble_next_range, unscramble_next_range, scramble_of_append, unscramble_of_append, scramble_next_of_append, unscramble_next_of_append}
use Rattle.demands.specs.Demands.{UnscrambledBack, CallsCut}

pub unscrambled_back : UnscrambledBack
unfolding UnscrambledBack code_refusal
unscrambled_back h ws tens =
    (λ room. rw (scramble_range ws h, length_scramble h ws, tens), unscramble_of_scramble ws h tens, sym (next_of_scramble h ws))

pub calls_cut : CallsCut
calls_cut =
    record {
      scramble = λ h ws vs. (scramble_next_range ws h, scramble_of_append ws vs h, scramble_next_of_append ws vs h);
      unscramble = λ h ws vs. (unscramble_next_range ws h, unscramble_of_append ws vs h, unscramble_next_of_append ws vs h);
    }
