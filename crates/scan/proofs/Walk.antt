-- Laws of next_packet: a walk over a region, from one whole packet to the next.
use mathlib.Core.Path.{◌≡◌, refl, sym, subst}
use mathlib.Core.List.{List}
use Prim.Native.Nat.{ℕ, zero, suc, ◌+◌, ◌-◌, ◌≤◌, ◌<◌}
use native.Mathlib.Omega.{arith}
use native.Mathlib.Decide.{dec_lt}
use lib.ListN.{length, drop}
use Rattle.std.specs.Prelude.{Option, None, Some}
use Rattle.std.specs.declared.ops.Range.{Range}
use Rattle.parts.proofs.Inside.{length_part}
use Rattle.scan.specs.declared.Here.{Here}
use Rattle.scan.specs.declared.Here.TheVariants.{Nothing, Cut, Whole}
use Rattle.scan.specs.Scan.{piece_at, scan, here_of, next_packet}
use Rattle.scan.proofs.Pieces.{AtNothing, AtCut, AtWhole, Turn, scan-turn, scan_end}

-- What holds at a place, and stays over a word where no packet starts and over the first words of a cut one, holds at the next whole packet,
-- or at the end.
module _
    (r : List ℕ)
    (P : ℕ → Type 0)
    (over_word : (i : ℕ) → AtNothing r i → P i → P (i + 1))
    (over_cut : (i : ℕ) → AtCut r i → P i → P (i + 3))
  where
    abbrev pub Reached : Option (Range ℕ) → Type 0
    Reached None = (i : ℕ) × (length r ≤ i) × P i
    Reached (Some packet) = P packet.start × AtWhole r packet.start (packet.end - packet.start)

    abbrev Next : ℕ → Type 0
    Next i = Reached (next_packet i (scan (drop i r)))

    turn : (i : ℕ) → P i → ((j : ℕ) → i < j → P j → Next j) → (here : Here) → Turn r i here → Next i
    unfolding next_packet
    turn i p next Nothing t = rw t.next (next (i + 1) (omega arith) (over_word i t p))
    turn i p next Cut t = rw t.next (next (i + 3) (omega arith) (over_cut i t p))
    turn i p next (Whole k) t =
        let size : k ≡ i + k - i = omega arith in
        rw (t.next, length_part i k r t.room) (p, subst (AtWhole r i) size t)

    walk : (n i : ℕ) → length r ≤ i + n → P i → Next i
    unfolding next_packet
    walk zero i h p = let end : length r ≤ i = omega arith in rw (scan_end i r end) (i, end, p)
    walk (suc n) i h p = go (λ j more q. walk n j (omega arith) q) (dec_lt i (length r))
      where
        go : ((j : ℕ) → i < j → P j → Next j) → Dec (i < length r) → Next i
        go next (yes less) = turn i p next (here_of (piece_at (drop i r))) (scan-turn r i _ less refl)
        go next (no least) = let end : length r ≤ i = omega arith in rw (scan_end i r end) (i, end, p)

    pub reach : (i : ℕ) (found : Option (Range ℕ)) → found ≡ next_packet i (scan (drop i r)) → P i → Reached found
    reach i found e p = subst Reached (sym e) (walk (length r) i (omega arith) p)

pub whole_found : (r : List ℕ) (i : ℕ) (packet : Range ℕ) → Some packet ≡ next_packet i (scan (drop i r)) → AtWhole r packet.start (packet.end - packet.start)
whole_found r i packet e = (reach r (λ _. Unit {0}) (λ j t p. tt) (λ j t p. tt) i (Some packet) e tt).1
