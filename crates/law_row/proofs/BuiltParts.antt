-- Laws of a stream that is built: its length, and what stands at each of its places.
use mathlib.Core.Path.{◌≡◌, refl, ap, ◌∙◌}
use mathlib.Core.Bool.{Bool, false}
use mathlib.Core.List.{List, [], ◌∷◌, ◌++◌, append_assoc}
use Prim.Native.Nat.{ℕ, ◌+◌, ◌-◌, ◌≤◌}
use native.Mathlib.Omega.{arith}
use lib.ListN.{length, take, replicate, length-append, length-replicate}
use lib.Seq.{take_all, take_at, drop-append-add}
use Rattle.crc.specs.Crc.{crc_start, crc_words}
use Rattle.parts.specs.Parts.{part}
use Rattle.plan.specs.declared.Plan.{Plan}
use Rattle.plan.specs.Fits.{Fits}
use Rattle.region.specs.Ancillary.{blanking_of, active_of}
use Rattle.stream.specs.Words.{trs, line_words_of, head_words, eav_of, lines_of, head_of, checks_of, sav_of, register_after}
use Rattle.compose.specs.Compose.{crc_for, blanking_for, stream_of}
use Rattle.compose.proofs.Laying.{length-line_words_of, length-head_words, length-crc_for}

-- ---- lower crates: parts, part

part-after : (a b : List ℕ) (from n count : ℕ) → length a + n ≡ from → part from count (a ++ b) ≡ part n count b
part-after a b from n count e = rw (← e) (ap (take count) (drop-append-add a b n))

-- ---- stream_of

length-blanking_for : (p : Plan) (blank : ℕ) (laid : List ℕ) → length laid ≤ p.places.blanks → length (blanking_for p blank laid) ≡ p.places.blanks
length-blanking_for p blank laid room = simp (length-append, length-replicate) (omega arith)

module _
    (p : Plan)
    (fits : Fits p.places)
    (known : Bool)
    (r blank : ℕ)
    (active laid : List ℕ)
    (long : length active ≡ p.places.count)
    (room : length laid ≤ p.places.blanks)
  where
    abbrev whole : List ℕ
    whole = stream_of p known r blank active laid

    pub length-stream_of : length whole ≡ p.places.total
    unfolding stream_of
    length-stream_of =
        simp (length-append, length-line_words_of p fits, length-crc_for p fits known r, length-replicate) (omega arith)

    -- a part that starts k words after the CRC, or after the blanking
    from_blank : (from k count : ℕ) → 8 + k ≡ from
        → part from count whole ≡ part k count (blanking_for p blank laid ++ (trs p.codes.sav ++ active))
    unfolding stream_of
    from_blank from k count e =
        part-after (head_words p) _ from (2 + k) count (omega (arith, length-head_words p fits))
        ∙ part-after (crc_for p known r) _ (2 + k) k count (omega (arith, length-crc_for p fits known r))

    from_sav : (from k count : ℕ) → p.places.sav + k ≡ from → part from count whole ≡ part k count (trs p.codes.sav ++ active)
    from_sav from k count e =
        from_blank from (p.places.blanks + k) count (omega arith)
        ∙ part-after (blanking_for p blank laid) _ (p.places.blanks + k) k count (omega (arith, length-blanking_for p blank laid room))

    pub eav_of-stream_of : eav_of p whole ≡ trs p.codes.eav
    unfolding stream_of
    eav_of-stream_of = refl

    pub lines_of-stream_of : lines_of p whole ≡ line_words_of p
    unfolding stream_of
    lines_of-stream_of = take_at (line_words_of p) _ p.places.lines (length-line_words_of p fits)

    pub head_of-stream_of : head_of p whole ≡ head_words p
    unfolding stream_of
    head_of-stream_of = take_at (head_words p) _ p.places.crc (length-head_words p fits)

    pub checks_of-stream_of : checks_of p whole ≡ crc_for p known r
    unfolding stream_of
    checks_of-stream_of =
        part-after (head_words p) _ p.places.crc 0 p.places.checks (omega (arith, length-head_words p fits))
        ∙ take_at (crc_for p known r) _ p.places.checks (length-crc_for p fits known r)

    pub blanking_of-stream_of : blanking_of p whole ≡ blanking_for p blank laid
    blanking_of-stream_of =
        from_blank p.places.blank 0 p.places.blanks (omega arith)
        ∙ take_at (blanking_for p blank laid) _ p.places.blanks (length-blanking_for p blank laid room)

    pub sav_of-stream_of : sav_of p whole ≡ trs p.codes.sav
    sav_of-stream_of = from_sav p.places.sav 0 4 (omega arith)

    pub active_of-stream_of : active_of p whole ≡ active
    active_of-stream_of = from_sav p.places.active 4 p.places.count (omega arith) ∙ take_all p.places.count active (omega arith)

    -- "the carry is each channel's CRC register after a row's active words"
    pub register_after-stream_of : register_after p whole ≡ crc_words crc_start active
    register_after-stream_of = ap (crc_words crc_start) active_of-stream_of

    -- "the rest is blanking"
    pub rest_stream_of : part (8 + length laid) (p.places.blanks - length laid) whole ≡ replicate (p.places.blanks - length laid) blank
    rest_stream_of =
        let n = p.places.blanks - length laid in
        from_blank (8 + length laid) (length laid) n refl
        ∙ ap (part (length laid) n) (append_assoc laid (replicate n blank) (trs p.codes.sav ++ active))
        ∙ part-after laid _ (length laid) 0 n (omega arith)
        ∙ take_at (replicate n blank) _ n (length-replicate n blank)

-- "Without a carry its CRC words are 200 200."
pub checks_of_without : (p : Plan) → Fits p.places → (r blank : ℕ) (active laid : List ℕ)
    → length active ≡ p.places.count → length laid ≤ p.places.blanks
    → checks_of p (stream_of p false r blank active laid) ≡ 0x200 ∷ 0x200 ∷ []
checks_of_without p fits r blank active laid long room =
    checks_of-stream_of p fits false r blank active laid long room ∙ ap (λ (n : ℕ). take n (0x200 ∷ 0x200 ∷ [])) fits.checks
