-- A row that is built from words without a reserved code and from whole packets with right checksums has no flag, judged with the carry with which it
-- was built, or with none.
use mathlib.Core.Path.{◌≡◌, refl, sym, ap, ◌∙◌}
use mathlib.Core.Bool.{Bool, true, false, ◌&&◌}
use mathlib.Core.List.{List, []}
use Prim.Native.Nat.{ℕ, ◌-◌, ◌≤◌}
use native.Mathlib.Omega.{arith}
use lib.ListN.{length}
use Rattle.bits.specs.Bits.{number}
use Rattle.bits.specs.Choice.{if}
use Rattle.bits.specs.Words.{reserved_code}
use Rattle.raster.specs.Lines.{line_refusal}
use Rattle.parts.specs.Parts.{any, end_to_end}
use Rattle.parts.proofs.Comparing.{same_refl, any_of_append}
use Rattle.plan.specs.declared.Plan.{Plan}
use Rattle.plan.specs.Fits.{Fits}
use Rattle.plan.specs.Plan.{plan_of}
use Rattle.plan.proofs.Plans.{plan_of-fits}
use Rattle.region.specs.Ancillary.{ancillary}
use Rattle.stream.specs.declared.Faults.{Faults}
use Rattle.stream.specs.Words.{y_blank, c_blank, checks_of, check_words, covered_by}
use Rattle.stream.specs.Faults.{differ, faults_of}
use Rattle.row.specs.Before.{Carry, carried}
use Rattle.row.specs.Row.{joined, flags_of}
use Rattle.compose.specs.Compose.{stream_of, y_stream, c_stream, lengths_ok}
use Rattle.compose.proofs.Refusal.{lengths_of}
use Rattle.law_row.specs.Lawful.{all_right}
use Rattle.law_row.proofs.BuiltParts.{eav_of-stream_of, lines_of-stream_of, head_of-stream_of, checks_of-stream_of, blanking_of-stream_of, sav_of-stream_of, active_of-stream_of}
use Rattle.law_row.proofs.Calm.{Calm, calm_none, calm_packets, calm_blanks, calm_plain}

-- ---- one stream

-- a stream that is built with register r, or without one, is judged by that register, or by none
abbrev OwnRegister : Bool → ℕ → Bool → ℕ → Type 0
OwnRegister known r seen s = seen ≡ true → (known ≡ true) × (s ≡ r)

abbrev pub no_faults : Faults
no_faults = record { eav = false; sav = false; line = false; crc = false; sum = false; cut = false; reserved = false }

module _
    (p : Plan)
    (fits : Fits p.places)
    (r blank : ℕ)
    (active : List ℕ)
    (packets : List (List ℕ))
    (long : length active ≡ p.places.count)
    (room : length (end_to_end packets) ≤ p.places.blanks)
    (right : all_right packets ≡ true)
    (plain : any reserved_code active ≡ false)
    (some : blank ≡ 0 → ⊥)
  where
    abbrev built : Bool → List ℕ
    built known = stream_of p known r blank active (end_to_end packets)

    crc_stream_of : (known seen : Bool) (s : ℕ) → OwnRegister known r seen s
        → (seen && differ (checks_of p (built known)) (check_words p (covered_by p s (built known)))) ≡ false
    crc_stream_of known false s own = refl
    crc_stream_of known true s own = rw ((own refl).0, (own refl).1) (simp (checks_of-stream_of, head_of-stream_of, same_refl))

    calm_active : (v : Bool) → Calm (if v active [])
    calm_active true = calm_plain active plain
    calm_active false = calm_none

    plain_picture : (v : Bool) → any reserved_code (if v [] active) ≡ false
    unfolding any
    plain_picture true = refl
    plain_picture false = plain

    pub faults_of-stream_of : (known seen : Bool) (s : ℕ) → OwnRegister known r seen s → faults_of p seen s (built known) ≡ no_faults
    unfolding faults_of ancillary
    faults_of-stream_of known seen s own =
        let laid = end_to_end packets in
        let calm = calm_packets packets _ right (calm_blanks (p.places.blanks - length laid) blank some) in
        let quiet = calm_active p.v in
        simp (
          crc_stream_of known seen s own,
          eav_of-stream_of,
          lines_of-stream_of,
          sav_of-stream_of,
          active_of-stream_of,
          blanking_of-stream_of,
          same_refl,
          any_of_append,
          calm.sum,
          calm.cut,
          quiet.sum,
          quiet.cut,
          plain_picture p.v,
        )

-- ---- the row

module _ (code line : ℕ) (ok : line_refusal code line ≡ 0) (known seen : Bool) (r s blank : ℕ) (active : List ℕ) (packets : List (List ℕ)) where
  faults_of_planned : OwnRegister known r seen s → lengths_ok (plan_of code line) active (end_to_end packets) ≡ true → all_right packets ≡ true
      → any reserved_code active ≡ false → (blank ≡ 0 → ⊥)
      → faults_of (plan_of code line) seen s (stream_of (plan_of code line) known r blank active (end_to_end packets)) ≡ no_faults
  faults_of_planned own lengths right plain some =
      let long = lengths_of (plan_of code line) active (end_to_end packets) lengths in
      faults_of-stream_of (plan_of code line) (plan_of-fits code line ok) r blank active packets long.0 long.1 right plain some known seen s own

-- a row that is built with this carry is judged with it, or with none
abbrev pub OwnOrNone : Carry → Carry → Type 0
OwnOrNone carry seen = (carried seen).known ≡ true → seen ≡ carry

module _
    (code line : ℕ)
    (carry : Carry)
    (y_active c_active : List ℕ)
    (y_packets c_packets : List (List ℕ))
    (ok : line_refusal code line ≡ 0)
    (y_lengths : lengths_ok (plan_of code line) y_active (end_to_end y_packets) ≡ true)
    (c_lengths : lengths_ok (plan_of code line) c_active (end_to_end c_packets) ≡ true)
    (y_right : all_right y_packets ≡ true)
    (c_right : all_right c_packets ≡ true)
    (y_plain : any reserved_code y_active ≡ false)
    (c_plain : any reserved_code c_active ≡ false)
  where
    -- its flags where it is judged with this carry
    abbrev flags_with : Carry → ℕ
    flags_with seen =
        let p = plan_of code line in
        flags_of p seen (y_stream p carry y_active (end_to_end y_packets)) (c_stream p carry c_active (end_to_end c_packets))

    pub judged_no_flag : (seen : Carry) → OwnOrNone carry seen → flags_with seen ≡ 0
    unfolding flags_of joined number
    judged_no_flag seen own =
        let b = carried carry in
        let j = carried seen in
        let known : j.known ≡ true → b.known ≡ true = λ e. sym (ap (λ (q : Carry). (carried q).known) (own e)) ∙ e in
        rw (
          faults_of_planned code line ok b.known j.known b.y j.y y_blank y_active y_packets
              (λ e. (known e, ap (λ (q : Carry). (carried q).y) (own e))) y_lengths y_right y_plain (λ e. omega arith),
          faults_of_planned code line ok b.known j.known b.c j.c c_blank c_active c_packets
              (λ e. (known e, ap (λ (q : Carry). (carried q).c) (own e))) c_lengths c_right c_plain (λ e. omega arith),
        )

    pub built_no_flag : flags_with carry ≡ 0
    built_no_flag = judged_no_flag carry (λ e. refl)
