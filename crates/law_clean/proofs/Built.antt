-- Laws of the words of a built row: where a 000 stands in C, and that all are of ten bits.
use mathlib.Core.Path.{◌≡◌, refl, sym, ap, subst, ◌∙◌}
use mathlib.Core.Bool.{Bool, true, false, not}
use mathlib.Core.List.{List, [], ◌∷◌, ◌++◌, append_assoc, flat_map}
use Prim.Native.Nat.{ℕ, zero, suc, ◌+◌, ◌-◌, ◌^◌, ◌≤◌, ◌<◌}
use native.Mathlib.Omega.{arith}
use lib.Dec.{eqb}
use lib.ListN.{length, take, drop, replicate, length-append, length-replicate, take-append-drop}
use borrow.Author.Tests.{not-true, eqb-true, leb-true}
use Rattle.bits.specs.Words.{words10, reserved_code}
use Rattle.bits.proofs.Choice.{and-true, false_not_true}
use Rattle.bits.proofs.Words.{words10_cons, tens_append, tens_blanks}
use Rattle.raster.specs.Lines.{line_refusal}
use Rattle.crc.specs.Crc.{register_ok, crc_words, cr0, cr1}
use Rattle.crc.proofs.Range.{crc_words_range}
use Rattle.crc.proofs.Words.{cr_words-done, cr_range, cr_not_reserved}
use Rattle.timing.specs.Line.{ln0_of, ln1_of}
use Rattle.timing.specs.Xyz.{xyz_of}
use Rattle.timing.proofs.Codes.{xyz_range, xyz_read_of_build}
use Rattle.timing.proofs.Line.{line_range}
use Rattle.parts.specs.Parts.{any, end_to_end}
use Rattle.parts.proofs.Comparing.{any_cons, same_true}
use Rattle.scan.specs.Packet.{marker, marked}
use Rattle.plan.specs.declared.Plan.{Plan}
use Rattle.plan.specs.Plan.{plan_of}
use Rattle.plan.proofs.Plans.{plan_of-fits, plan_of_plain, plan_of-found}
use Rattle.stream.specs.Words.{trs, line_words_of, head_words}
use Rattle.compose.specs.Compose.{crc_for, blanking_for, stream_of, lengths_ok}
use Rattle.law_row.specs.Lawful.{right_packet, all_right}
use Rattle.law_row.proofs.Calm.{right_packet_parts}
use Rattle.recogniser.specs.Sight.{eav_read, is_eav}
use Rattle.law_clean.specs.Signal.{Channel, lawful_channel}
use Rattle.law_clean.proofs.Spaced.{Spaced, spaced_append}
use Rattle.law_clean.proofs.Spaced.Spaced.{done, word, mark}

-- ---- spaced words

some_word : (w : ℕ) → reserved_code w ≡ false → w ≡ 0 → ⊥
unfolding reserved_code
some_word w e z = false_not_true (sym (rw z at e))

spaced_plain : (ws : List ℕ) → any reserved_code ws ≡ false → Spaced ws
unfolding any
spaced_plain [] e = done
spaced_plain (w ∷ ws) e = let b = any_cons reserved_code w ws e in word (some_word w b.0) (spaced_plain ws b.1)

spaced_blanks : (n blank : ℕ) → (blank ≡ 0 → ⊥) → Spaced (replicate n blank)
spaced_blanks zero blank h = done
spaced_blanks (suc n) blank h = word h (spaced_blanks n blank h)

spaced_packet : (p : List ℕ) → not (right_packet p) ≡ false → any reserved_code (drop 3 p) ≡ false → Spaced p
unfolding marked
spaced_packet p right plain =
    let m = and-true (marked p) _ (right_packet_parts p right).0 in
    let full : ◌≡◌ {A = ℕ} 0x3ff 0 → ⊥ = λ e. omega arith in
    subst Spaced (ap (λ (l : List ℕ). l ++ drop 3 p) (sym (same_true (take 3 p) marker m.0)) ∙ take-append-drop 3 p)
    (mark (word full (spaced_plain (drop 3 p) plain)))

spaced_packets : (packets : List (List ℕ)) → any (λ p. not (right_packet p)) packets ≡ false → any (λ p. any reserved_code (drop 3 p)) packets ≡ false
    → Spaced (end_to_end packets)
unfolding flat_map
spaced_packets [] right plain = done
spaced_packets (p ∷ ps) right plain =
    let r = any_cons (λ p. not (right_packet p)) p ps right in
    let q = any_cons (λ p. any reserved_code (drop 3 p)) p ps plain in
    spaced_append (spaced_packet p r.0 q.0) (spaced_packets ps r.1 q.1)

-- ---- the parts of a stream

-- what stands between its EAV and its SAV
abbrev pub middle : Plan → Bool → ℕ → ℕ → List ℕ → List ℕ
middle p known r blank laid = line_words_of p ++ (crc_for p known r ++ blanking_for p blank laid)

pub stream_of_parts : (p : Plan) (known : Bool) (r blank : ℕ) (active laid : List ℕ)
    → stream_of p known r blank active laid ≡ trs p.codes.eav ++ (middle p known r blank laid ++ (trs p.codes.sav ++ active))
unfolding stream_of
stream_of_parts p known r blank active laid = simp append_assoc

-- two words that are right
record Two (ws : List ℕ) : Type 0 where
  long : length ws ≡ 2
  spaced : Spaced ws
  tens : words10 ws ≡ true

two_words : (n a b : ℕ) → n ≡ 2 → reserved_code a ≡ false → reserved_code b ≡ false → a ≤ 0x3ff → b ≤ 0x3ff → Two (take n (a ∷ b ∷ []))
unfolding words10
two_words n a b e ra rb la lb =
    rw e
    (record {
      long = refl;
      spaced = word (some_word a ra) (word (some_word b rb) done);
      tens = words10_cons a (b ∷ []) la (words10_cons b [] lb refl);
    })

module _ (code line : ℕ) (ok : line_refusal code line ≡ 0) where
  abbrev plan : Plan
  plan = plan_of code line

  two_lines : Two (line_words_of plan)
  two_lines =
      let plain = plan_of_plain code line ok in
      let low = line_range line in
      let e0 : plan.codes.ln0 ≡ ln0_of line = ap (λ p. p.codes.ln0) (plan_of-found code line ok) in
      let e1 : plan.codes.ln1 ≡ ln1_of line = ap (λ p. p.codes.ln1) (plan_of-found code line ok) in
      two_words plan.places.lines plan.codes.ln0 plan.codes.ln1 (plan_of-fits code line ok).lines plain.ln0 plain.ln1
      (omega arith) (omega arith)

  two_checks : (known : Bool) (r : ℕ) → register_ok r ≡ true → Two (crc_for plan known r)
  unfolding reserved_code
  two_checks true r ok_r =
      let q = crc_words r (head_words plan) in
      let small : q < 2 ^ 18 = crc_words_range r (head_words plan) (omega (arith, leb-true r 0x3ffff ok_r)) in
      let c = cr_range q in
      let n = cr_not_reserved q in
      rw (cr_words-done q (omega arith))
      (two_words plan.places.checks (cr0 q) (cr1 q) (plan_of-fits code line ok).checks n.0 n.1 (omega arith) (omega arith))
  two_checks false r ok_r = two_words plan.places.checks 0x200 0x200 (plan_of-fits code line ok).checks refl refl (omega arith) (omega arith)

-- ---- a lawful channel

pub record Lawful (p : Plan) (known : Bool) (r blank : ℕ) (k : Channel) : Type 0 where
  pub lengths : lengths_ok p k.active (end_to_end k.packets) ≡ true
  pub right : all_right k.packets ≡ true
  pub plain : any reserved_code k.active ≡ false
  pub long : length k.active ≡ p.places.count
  pub room : length (end_to_end k.packets) ≤ p.places.blanks
  pub tens_active : words10 k.active ≡ true
  pub spaced_active : Spaced k.active
  pub long_middle : 4 + length (middle p known r blank (end_to_end k.packets)) ≡ p.places.sav
  pub tens_middle : words10 (middle p known r blank (end_to_end k.packets)) ≡ true
  pub spaced_middle : Spaced (middle p known r blank (end_to_end k.packets))

module _ (code line : ℕ) (ok : line_refusal code line ≡ 0) where
  pub lawful_channel_holds : (known : Bool) (r blank : ℕ) (k : Channel) → register_ok r ≡ true → (blank ≡ 0 → ⊥) → blank ≤ 0x3ff
      → lawful_channel (plan_of code line) k ≡ true → Lawful (plan_of code line) known r blank k
  lawful_channel_holds known r blank k ok_r some ten lawful =
      let p = plan_of code line in
      let fits = plan_of-fits code line ok in
      let laid = end_to_end k.packets in
      let a = and-true (lengths_ok p k.active laid) _ lawful in
      let b = and-true (words10 k.active) _ a.1 in
      let c = and-true (words10 laid) _ b.1 in
      let d = and-true (not (any reserved_code k.active)) _ c.1 in
      let e = and-true (all_right k.packets) _ d.1 in
      let l = and-true (eqb (length k.active) p.places.count) _ a.0 in
      let long = eqb-true _ _ l.0 in
      let room = leb-true _ _ l.1 in
      let plain = not-true (any reserved_code k.active) d.0 in
      let lines = two_lines code line ok in
      let checks = two_checks code line ok known r ok_r in
      let spare = p.places.blanks - length laid in
      let rest = replicate spare blank in
      record {
        lengths = a.0;
        right = e.0;
        plain = plain;
        long = long;
        room = room;
        tens_active = b.0;
        spaced_active = spaced_plain k.active plain;
        long_middle =
            omega (
              arith,
              length-append (line_words_of p) (crc_for p known r ++ (laid ++ rest)),
              length-append (crc_for p known r) (laid ++ rest),
              length-append laid rest,
              length-replicate spare blank,
              lines.long,
              checks.long,
              fits.sav,
              room,
            );
        tens_middle =
            tens_append (line_words_of p) (crc_for p known r ++ (laid ++ rest)) lines.tens
            (tens_append (crc_for p known r) (laid ++ rest) checks.tens (tens_append laid rest c.0 (tens_blanks spare blank ten)));
        spaced_middle =
            spaced_append lines.spaced
            (spaced_append checks.spaced
            (spaced_append (spaced_packets k.packets (not-true _ e.0) (not-true _ e.1)) (spaced_blanks spare blank some)));
      }

-- ---- the timing codes

pub record Codes (eav sav : ℕ) : Type 0 where
  pub eav_low : eav < 1024
  pub eav_some : eav ≡ 0 → ⊥
  pub eav_is : is_eav eav ≡ true
  pub sav_low : sav < 1024
  pub sav_some : sav ≡ 0 → ⊥
  pub sav_not : is_eav sav ≡ false

codes_hold : (f v : Bool) → Codes (xyz_of f v true) (xyz_of f v false)
unfolding is_eav
codes_hold f v =
    let e = xyz_range f v true in
    let s = xyz_range f v false in
    record {
      eav_low = e.1;
      eav_some = λ z. omega arith;
      eav_is = ap eav_read (xyz_read_of_build f v true);
      sav_low = s.1;
      sav_some = λ z. omega arith;
      sav_not = ap eav_read (xyz_read_of_build f v false);
    }

pub codes : (code line : ℕ) → line_refusal code line ≡ 0 → Codes (plan_of code line).codes.eav (plan_of code line).codes.sav
codes code line ok = rw (plan_of-found code line ok) (codes_hold _ _)
