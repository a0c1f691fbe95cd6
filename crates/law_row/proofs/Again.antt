-- A corrected stream, corrected again: nothing changes. A stream wiped again: it may change.
use mathlib.Core.Path.{◌≡◌, refl, sym, ap, ◌∙◌}
use mathlib.Core.Bool.{Bool, true, false}
use mathlib.Core.List.{List, [], ◌∷◌, ◌++◌, flat_map}
use Prim.Native.Nat.{ℕ}
use native.Mathlib.Omega.{arith}
use lib.ListN.{length, take, drop, take-append-drop}
use Rattle.bits.specs.Choice.{if}
use Rattle.bits.proofs.Lists.{cons_head}
use Rattle.parts.specs.Parts.{part, same, in_part, laid}
use Rattle.parts.proofs.Inside.{in_part-laid}
use Rattle.plan.specs.declared.Plan.{Plan}
use Rattle.plan.specs.Fits.{Fits}
use Rattle.scan.specs.Packet.{marked, fits}
use Rattle.scan.specs.Scan.{piece_at, scan_from, scan}
use Rattle.region.specs.Region.{mended, wiped}
use Rattle.region.specs.Ancillary.{blanking_of, active_of, in_regions}
use Rattle.region.proofs.Mended.{mended_again}
use Rattle.stream.specs.Words.{c_blank, trs, line_words_of, check_words, eav_of, lines_of, checks_of, sav_of, covered_by}
use Rattle.repair.specs.Repair.{with_sums, with_codes, with_crc, put_right}
use Rattle.law_row.proofs.Rechecked.{put_right_eav, put_right_lines, put_right_checks, put_right_blanking, put_right_sav, put_right_active}

-- ---- what stays where a part already is what it is made

in_part_again : (from count : ℕ) (f : List ℕ → List ℕ) (ws : List ℕ) → f (part from count ws) ≡ part from count ws → in_part from count f ws ≡ ws
unfolding in_part
in_part_again from count f ws e =
    ap (λ (l : List ℕ). take from ws ++ (l ++ drop count (drop from ws))) e
    ∙ ap (λ (l : List ℕ). take from ws ++ l) (take-append-drop count (drop from ws))
    ∙ take-append-drop from ws

laid_again : (at count : ℕ) (vs ws : List ℕ) → part at count ws ≡ vs → laid at vs ws ≡ ws
laid_again at count vs ws e =
    ap (λ (l : List ℕ). laid at l ws) (sym e) ∙ sym (in_part-laid at count (λ l. l) ws refl) ∙ in_part_again at count (λ l. l) ws refl

mended-same : (l old : List ℕ) → l ≡ mended old → mended l ≡ l
mended-same l old e = ap mended e ∙ mended_again old ∙ sym e

module _ (p : Plan) (ws : List ℕ) where
  with_sums_again : (before old : List ℕ) → blanking_of p ws ≡ mended before → active_of p ws ≡ if p.v (mended old) old → with_sums p ws ≡ ws
  unfolding with_sums in_regions
  with_sums_again before old b a =
      ap (λ (l : List ℕ). if p.v (in_part p.places.active p.places.count mended l) l)
      (in_part_again p.places.blank p.places.blanks mended ws (mended-same (blanking_of p ws) before b))
      ∙ go p.v a
    where
      go : (v : Bool) → active_of p ws ≡ if v (mended old) old → if v (in_part p.places.active p.places.count mended ws) ws ≡ ws
      go true e = in_part_again p.places.active p.places.count mended ws (mended-same (active_of p ws) old e)
      go false e = refl

  with_codes_again : eav_of p ws ≡ trs p.codes.eav → lines_of p ws ≡ line_words_of p → sav_of p ws ≡ trs p.codes.sav → with_codes p ws ≡ ws
  unfolding with_codes
  with_codes_again e l s =
      ap (λ (m : List ℕ). laid p.places.sav (trs p.codes.sav) (laid 4 (line_words_of p) m)) (laid_again 0 4 (trs p.codes.eav) ws e)
      ∙ ap (laid p.places.sav (trs p.codes.sav)) (laid_again 4 p.places.lines (line_words_of p) ws l)
      ∙ laid_again p.places.sav 4 (trs p.codes.sav) ws s

  with_crc_again : (known : Bool) (r : ℕ) (old : List ℕ) → checks_of p ws ≡ if known (check_words p (covered_by p r ws)) old → with_crc p known r ws ≡ ws
  unfolding with_crc
  with_crc_again true r old e = laid_again p.places.crc p.places.checks (check_words p (covered_by p r ws)) ws e
  with_crc_again false r old e = refl

-- ---- the stream

module _ (p : Plan) (fits : Fits p.places) (known : Bool) (r : ℕ) (ws : List ℕ) (long : length ws ≡ p.places.total) where
  pub put_right_again : put_right p known r (put_right p known r ws) ≡ put_right p known r ws
  unfolding put_right
  put_right_again =
      let m = put_right p known r ws in
      ap (λ (l : List ℕ). with_crc p known r (with_codes p l))
      (with_sums_again p m (blanking_of p ws) (active_of p ws) (put_right_blanking p fits known r ws long) (put_right_active p fits known r ws long))
      ∙ ap (with_crc p known r)
      (with_codes_again p m (put_right_eav p fits known r ws long) (put_right_lines p fits known r ws long) (put_right_sav p fits known r ws long))
      ∙ with_crc_again p m known r (checks_of p ws) (put_right_checks p fits known r ws long)

-- ---- wiping, which does not settle

-- a packet that is cut, as its DC is the 3FF of a whole packet from its DID on
abbrev pub nested : List ℕ
nested = 0x000 ∷ 0x3ff ∷ 0x3ff ∷ 0x000 ∷ 0x3ff ∷ 0x3ff ∷ 0x161 ∷ 0x101 ∷ 0x200 ∷ 0x262 ∷ []

-- the inner packet wiped: now the outer one's DC is 200, no user words, and it is whole
abbrev pub wiped_once : List ℕ
wiped_once = 0x000 ∷ 0x3ff ∷ 0x3ff ∷ 0x200 ∷ 0x200 ∷ 0x200 ∷ 0x200 ∷ 0x200 ∷ 0x200 ∷ 0x200 ∷ []

abbrev pub wiped_twice : List ℕ
wiped_twice = 0x200 ∷ 0x200 ∷ 0x200 ∷ 0x200 ∷ 0x200 ∷ 0x200 ∷ 0x200 ∷ 0x200 ∷ 0x200 ∷ 0x200 ∷ []

pub second_wiping_changes : (wiped c_blank nested ≡ wiped_once) × (wiped c_blank wiped_once ≡ wiped_twice) × (wiped_twice ≡ wiped_once → ⊥)
unfolding wiped scan scan_from piece_at marked fits same flat_map
second_wiping_changes = (refl, refl, λ e. let z : ◌≡◌ {A = ℕ} 0x200 0x000 = cons_head e in omega arith)
