-- Laws of streams of cable bits.
use mathlib.Core.Path.{◌≡◌, refl, sym, ap, ◌∙◌}
use mathlib.Core.Bool.{Bool, true, false}
use mathlib.Core.List.{List, [], ◌∷◌, ◌++◌, reverse, reverse_aux, reverse_aux-eq}
use Prim.Native.Nat.{ℕ, zero, suc, ◌+◌, ◌<◌}
use native.Mathlib.Omega.{arith}
use lib.ListN.{length, get_or, drop, get_or-append, length-reverse}
use Rattle.bits.specs.Bits.{◌⊕◌}
use Rattle.bits.proofs.Bits.{⊕-self, ⊕-false, ⊕-assoc}
use Rattle.cable.specs.Bits.{ago, scrambler, descrambler, nrzi, unnrzi, levels, scrambled, unscrambled}
use Rattle.bits.proofs.Lists.{cons_equal, cons_head, cons_tail}

-- ---- a bit at a time: the past after cable bits `ws` is `reverse_aux ws p`

⊕-undo : (a b : Bool) → a ⊕ b ⊕ b ≡ a
⊕-undo a b = simp (⊕-assoc, ⊕-self, ⊕-false)

⊕-undo-two : (a b c : Bool) → a ⊕ b ⊕ c ⊕ b ⊕ c ≡ a
⊕-undo-two a true true = simp (⊕-assoc, ⊕-false)
⊕-undo-two a true false = simp (⊕-assoc, ⊕-false)
⊕-undo-two a false true = simp (⊕-assoc, ⊕-false)
⊕-undo-two a false false = simp ⊕-false

-- the cable bit of a data bit, and the data bit of a cable bit, after past cable bits
unfoldable pub cable_bit : List Bool → Bool → Bool
cable_bit p d = d ⊕ ago 5 (levels p) ⊕ ago 9 (levels p) ⊕ ago 1 p

unfoldable pub data_bit : List Bool → Bool → Bool
data_bit p w = w ⊕ ago 1 p ⊕ ago 5 (levels p) ⊕ ago 9 (levels p)

pub scrambled_cons : (p : List Bool) (d : Bool) (ds : List Bool) → scrambled p (d ∷ ds) ≡ cable_bit p d ∷ scrambled (cable_bit p d ∷ p) ds
unfolding scrambled scrambler nrzi levels cable_bit
scrambled_cons p d ds =
    let s = d ⊕ ago 5 (levels p) ⊕ ago 9 (levels p) in
    ap (λ (b : Bool). (s ⊕ ago 1 p) ∷ nrzi (s ⊕ ago 1 p) (scrambler (b ∷ levels p) ds)) (sym (⊕-undo s (ago 1 p)))

pub unscrambled_cons : (p : List Bool) (w : Bool) (ws : List Bool) → unscrambled p (w ∷ ws) ≡ data_bit p w ∷ unscrambled (w ∷ p) ws
unfolding unscrambled descrambler unnrzi levels data_bit
unscrambled_cons p w ws = refl

pub scrambled_nil : (p : List Bool) → scrambled p [] ≡ []
unfolding scrambled scrambler nrzi
scrambled_nil p = refl

pub unscrambled_nil : (p : List Bool) → unscrambled p [] ≡ []
unfolding unscrambled descrambler unnrzi
unscrambled_nil p = refl

-- ---- pasts that agree on their latest bits

abbrev pub Agree : ℕ → List Bool → List Bool → Type 0
Agree n p q = (k : ℕ) → k < n → get_or p k false ≡ get_or q k false

agree_cons : (n : ℕ) (p q : List Bool) (w : Bool) → Agree n p q → Agree (suc n) (w ∷ p) (w ∷ q)
agree_cons n p q w a zero h = refl
agree_cons n p q w a (suc k) h = a k (omega arith)

-- past s from past cable bits
levels_at : (k : ℕ) (p : List Bool) → get_or (levels p) k false ≡ get_or p k false ⊕ get_or p (suc k) false
unfolding levels
levels_at k [] = refl
levels_at zero (w ∷ p) = refl
levels_at (suc k) (w ∷ p) = levels_at k p

data_bit_of_agree : (p q : List Bool) (w : Bool) → Agree 10 p q → data_bit p w ≡ data_bit q w
unfolding data_bit
data_bit_of_agree p q w a =
    simp (levels_at, a 0 (omega arith), a 4 (omega arith), a 5 (omega arith), a 8 (omega arith), a 9 (omega arith))

cable_bit_of_agree : (p q : List Bool) (d : Bool) → Agree 10 p q → cable_bit p d ≡ cable_bit q d
unfolding cable_bit
cable_bit_of_agree p q d a =
    simp (levels_at, a 0 (omega arith), a 4 (omega arith), a 5 (omega arith), a 8 (omega arith), a 9 (omega arith))

-- ten bits decide, whatever stands before them
pub agree_last : (bs p q : List Bool) → length bs ≡ 10 → Agree 10 (reverse_aux bs p) (reverse_aux bs q)
agree_last bs p q e k h = at p ∙ sym (at q)
  where
    at : (r : List Bool) → get_or (reverse_aux bs r) k false ≡ get_or (reverse bs) k false
    at r = rw (reverse_aux-eq bs r) (get_or-append (reverse bs) r false k (omega (arith, length-reverse bs)))

-- ---- a code: bits from bits, after past cable bits; each bit that it gives, and the cable bit that then joins the past

abbrev pub Code : Type 0
Code = List Bool → List Bool → List Bool

abbrev pub BitCode : Type 0
BitCode = List Bool → Bool → Bool

pub record Bitwise (code : Code) (bit joins : BitCode) : Type 0 where
  pub nil : (p : List Bool) → code p [] ≡ []
  pub cons : (p : List Bool) (b : Bool) (bs : List Bool) → code p (b ∷ bs) ≡ bit p b ∷ code (joins p b ∷ p) bs
  pub bit_of_agree : (p q : List Bool) (b : Bool) → Agree 10 p q → bit p b ≡ bit q b
  pub joins_of_agree : (p q : List Bool) (b : Bool) → Agree 10 p q → joins p b ≡ joins q b

module _ {code : Code} {bit joins : BitCode} (c : Bitwise code bit joins) where
  pub length_code : (bs p : List Bool) → length (code p bs) ≡ length bs
  length_code [] p = ap length (c.nil p)
  length_code (b ∷ bs) p = ap length (c.cons p b bs) ∙ ap suc (length_code bs (joins p b ∷ p))

  -- what joins the past is a code too: the cable bits
  pub code_of_append : {cable : Code} → Bitwise cable joins joins → (bs cs p : List Bool) → code p (bs ++ cs) ≡ code p bs ++ code (reverse_aux (cable p bs) p) cs
  code_of_append k [] cs p = rw (c.nil p, k.nil p)
  code_of_append k (b ∷ bs) cs p = rw (c.cons p b (bs ++ cs), c.cons p b bs, k.cons p b bs, code_of_append k bs cs (joins p b ∷ p))

  pub code_of_agree : (bs p q : List Bool) → Agree 10 p q → code p bs ≡ code q bs
  code_of_agree [] p q a = c.nil p ∙ sym (c.nil q)
  code_of_agree (b ∷ bs) p q a =
      let e : joins p b ≡ joins q b = c.joins_of_agree p q b a in
      c.cons p b bs
      ∙ cons_equal (c.bit_of_agree p q b a) (ap (λ (x : Bool). code (x ∷ p) bs) e ∙ code_of_agree bs (joins q b ∷ p) (joins q b ∷ q) (λ k h. agree_cons 10 p q (joins q b) a k (omega arith)))
      ∙ sym (c.cons q b bs)

-- scrambling makes the cable bits, unscrambling takes them
abbrev pub taken_bit : BitCode
taken_bit p w = w

abbrev pub taken : Code
taken p ws = ws

pub scrambled_bitwise : Bitwise scrambled cable_bit cable_bit
scrambled_bitwise = record { nil = scrambled_nil; cons = scrambled_cons; bit_of_agree = cable_bit_of_agree; joins_of_agree = cable_bit_of_agree }

pub unscrambled_bitwise : Bitwise unscrambled data_bit taken_bit
unscrambled_bitwise = record { nil = unscrambled_nil; cons = unscrambled_cons; bit_of_agree = data_bit_of_agree; joins_of_agree = λ p q w a. refl }

pub taken_bitwise : Bitwise taken taken_bit taken_bit
taken_bitwise = record { nil = λ p. refl; cons = λ p w ws. refl; bit_of_agree = λ p q w a. refl; joins_of_agree = λ p q w a. refl }

pub length-unscrambled : (ws p : List Bool) → length (unscrambled p ws) ≡ length ws
length-unscrambled = length_code unscrambled_bitwise

pub unscrambled_of_append : (ws vs p : List Bool) → unscrambled p (ws ++ vs) ≡ unscrambled p ws ++ unscrambled (reverse_aux ws p) vs
unscrambled_of_append = code_of_append unscrambled_bitwise taken_bitwise

-- ---- there and back

nrzi_back : (w : Bool) (ss : List Bool) → unnrzi w (nrzi w ss) ≡ ss
unfolding nrzi unnrzi
nrzi_back w [] = refl
nrzi_back w (s ∷ ss) = cons_equal (⊕-undo s w) (nrzi_back (s ⊕ w) ss)

scrambler_back : (p ds : List Bool) → descrambler p (scrambler p ds) ≡ ds
unfolding scrambler descrambler
scrambler_back p [] = refl
scrambler_back p (d ∷ ds) = cons_equal (⊕-undo-two d (ago 5 p) (ago 9 p)) (scrambler_back ((d ⊕ ago 5 p ⊕ ago 9 p) ∷ p) ds)

pub unscrambled_of_scrambled : (p ds : List Bool) → unscrambled p (scrambled p ds) ≡ ds
unfolding scrambled unscrambled
unscrambled_of_scrambled p ds = ap (descrambler (levels p)) (nrzi_back (ago 1 p) (scrambler (levels p) ds)) ∙ scrambler_back (levels p) ds

-- ---- whatever stood before

-- "From any two histories, unscrambled bits agree from the eleventh on."
agree_from : (ws : List Bool) (n j : ℕ) → n + j ≡ 10 → (p q : List Bool) → Agree n p q → drop j (unscrambled p ws) ≡ drop j (unscrambled q ws)
agree_from ws n zero e p q a = code_of_agree unscrambled_bitwise ws p q (λ k h. a k (omega arith))
agree_from [] n (suc j) e p q a = ap (drop (suc j)) (unscrambled_nil p ∙ sym (unscrambled_nil q))
agree_from (w ∷ ws) n (suc j) e p q a =
    rw (unscrambled_cons p w ws, unscrambled_cons q w ws) (agree_from ws (suc n) j (omega arith) (w ∷ p) (w ∷ q) (agree_cons n p q w a))

pub unscrambled_from_eleventh : (p q ws : List Bool) → drop 10 (unscrambled p ws) ≡ drop 10 (unscrambled q ws)
unscrambled_from_eleventh p q ws = agree_from ws 0 10 refl p q (λ k h. absurd (omega arith))

-- ---- no two streams of one length have the same data bits

⊕-cancel : (a b c : Bool) → a ⊕ c ≡ b ⊕ c → a ≡ b
⊕-cancel a b c e = sym (⊕-undo a c) ∙ ap (λ (x : Bool). x ⊕ c) e ∙ ⊕-undo b c

data_bit_injective : (p : List Bool) (w v : Bool) → data_bit p w ≡ data_bit p v → w ≡ v
unfolding data_bit
data_bit_injective p w v e = ⊕-cancel w v _ (⊕-cancel _ _ _ (⊕-cancel _ _ _ e))

pub unscrambled_injective : (ws vs p : List Bool) → length ws ≡ length vs → unscrambled p ws ≡ unscrambled p vs → ws ≡ vs
unscrambled_injective [] [] p l e = refl
unscrambled_injective [] (v ∷ vs) p l e = absurd (omega arith)
unscrambled_injective (w ∷ ws) [] p l e = absurd (omega arith)
unscrambled_injective (w ∷ ws) (v ∷ vs) p l e = cons_equal same (unscrambled_injective ws vs (w ∷ p) (omega arith) rest)
  where
    both : data_bit p w ∷ unscrambled (w ∷ p) ws ≡ data_bit p v ∷ unscrambled (v ∷ p) vs
    both = sym (unscrambled_cons p w ws) ∙ e ∙ unscrambled_cons p v vs

    same : w ≡ v
    same = data_bit_injective p w v (cons_head both)

    rest : unscrambled (w ∷ p) ws ≡ unscrambled (w ∷ p) vs
    rest = cons_tail both ∙ ap (λ (b : Bool). unscrambled (b ∷ p) vs) (sym same)
