-- Laws of a stream that is laid part after part.
use mathlib.Core.Path.{◌≡◌, ap, ◌∙◌}
use mathlib.Core.Bool.{Bool, true, false}
use mathlib.Core.List.{List, [], ◌∷◌, ◌++◌, append_assoc}
use Prim.Native.Nat.{ℕ, ◌+◌, ◌-◌, ◌≤◌}
use native.Mathlib.Omega.{arith}
use lib.ListN.{length, take, replicate, length-append, length-replicate}
use Rattle.parts.specs.Parts.{laid}
use Rattle.parts.proofs.Laid.{laid_of_append}
use Rattle.plan.specs.declared.Plan.{Plan}
use Rattle.plan.specs.Fits.{Fits}
use Rattle.stream.specs.Words.{trs, line_words_of, head_words}
use Rattle.compose.specs.Compose.{crc_for, stream_of}

length_pair : (n a b : ℕ) → n ≡ 2 → length (take n (a ∷ b ∷ [])) ≡ n
length_pair n a b e = rw e

-- two runs of words, of which the second is laid where the first ends
laid_next : (at next : ℕ) (vs ws out : List ℕ) → at + length vs ≡ next → laid at (vs ++ ws) out ≡ laid next ws (laid at vs out)
laid_next at next vs ws out e = laid_of_append at vs ws out ∙ ap (λ (n : ℕ). laid n ws (laid at vs out)) e

module _ (p : Plan) (fits : Fits p.places) where
  pub length-line_words_of : length (line_words_of p) ≡ p.places.lines
  length-line_words_of = length_pair p.places.lines _ _ fits.lines

  pub length-head_words : length (head_words p) ≡ p.places.crc
  length-head_words = omega (arith, length-line_words_of)

  pub length-crc_for : (known : Bool) (r : ℕ) → length (crc_for p known r) ≡ p.places.checks
  length-crc_for true r = length_pair p.places.checks _ _ fits.checks
  length-crc_for false r = length_pair p.places.checks _ _ fits.checks

  pub laid_head : (checks out : List ℕ)
      → laid 0 (head_words p ++ checks) out ≡ laid p.places.crc checks (laid 4 (line_words_of p) (laid 0 (trs p.codes.eav) out))
  laid_head checks out =
      laid_next 0 p.places.crc (head_words p) checks out (omega (arith, length-head_words))
      ∙ ap (laid p.places.crc checks) (laid_next 0 4 (trs p.codes.eav) (line_words_of p) out (omega arith))

  pub laid-stream_of : (known : Bool) (r blank : ℕ) (active words out : List ℕ) → length words ≤ p.places.blanks
      → laid 0 (stream_of p known r blank active words) out
      ≡ laid p.places.active active
      (laid p.places.sav (trs p.codes.sav)
      (laid (p.places.blank + length words) (replicate (p.places.blanks - length words) blank)
      (laid p.places.blank words (laid 0 (head_words p ++ crc_for p known r) out))))
  unfolding stream_of
  laid-stream_of known r blank active words out room =
      let at = p.places in
      let head = head_words p ++ crc_for p known r in
      let rest = replicate (at.blanks - length words) blank in
      let end = trs p.codes.sav ++ active in
      let whole : stream_of p known r blank active words ≡ head ++ (words ++ (rest ++ end)) = simp append_assoc in
      let first : length head ≡ 8 = simp length-append (omega (arith, length-head_words, length-crc_for known r)) in
      ap (λ (l : List ℕ). laid 0 l out) whole
      ∙ laid_next 0 at.blank head _ out (omega arith)
      ∙ laid_next at.blank (at.blank + length words) words _ _ (omega arith)
      ∙ laid_next (at.blank + length words) at.sav rest end _ (omega (arith, length-replicate (at.blanks - length words) blank))
      ∙ laid_next at.sav at.active (trs p.codes.sav) active _ (omega arith)
