-- Each call answers the number of its first test that fails, and where it refuses it changes nothing that it was lent.
use mathlib.Core.Path.{◌≡◌, refl, ◌∙◌}
use mathlib.Core.Bool.{Bool, true, false, ◌&&◌}
use mathlib.Core.List.{List, [], ◌∷◌}
use Prim.Native.Nat.{ℕ, zero, suc, ◌<◌}
use native.Mathlib.Omega.{arith}
use lib.Dec.{T, leb, ltb, ltb→lt}
use lib.ListN.{length}
use Rattle.std.specs.Prelude.{None, Some, Ok, Err}
use Rattle.bits.specs.Choice.{if, unless_zero}
use Rattle.bits.specs.Words.{words10}
use Rattle.bits.proofs.Below.{both_left, both_right}
use Rattle.refusal.specs.declared.Refusal.TheVariants.{TooHigh}
use Rattle.refusal.specs.Refusal.{result_of, refusal_of}
use Rattle.refusal.proofs.Answers.{refusal_of_result, if_below}
use Rattle.raster.specs.Table.{raster_ok, raster_given, raster_refusal, looked_up}
use Rattle.raster.specs.Lines.{line_refusal}
use Rattle.raster.proofs.Lines.{line_refusal_below, line_facts_refusal}
use Rattle.crc.specs.Crc.{register_ok, ran, cr_words}
use Rattle.cable.specs.Words.{scramble_words, unscramble_words, scramble_next, unscramble_next, code_refusal, filled}
use Rattle.align.proofs.FirstSync.{found_refusal}
use Rattle.timing.specs.Xyz.{fvh, f_bit, v_bit, h_bit, exact_xyz, read_xyz, told}
use Rattle.timing.specs.Line.{line_from, read_refusal, line_read}
use Rattle.timing.proofs.Line.{line_words_refusal}
use Rattle.parts.specs.Parts.{unless_refused, laid_unless}
use Rattle.parts.proofs.Laid.{unless_refused-refused}
use Rattle.plan.specs.Plan.{plan_of, planned}
use Rattle.plan.specs.Refusal.{row_refusal}
use Rattle.packet.specs.Build as Packet
use Rattle.finding.specs.Find.{find_of}
use Rattle.finding.specs.Extract.{channel_of, packets_in, extract_refusal, extracted}
use Rattle.row.specs.Row.{carry_after, judged, check_refusal, checked}
use Rattle.row.proofs.Rows.{check_refusal_below}
use Rattle.repair.specs.Answer.{corrected_y, corrected_c, corrected}
use Rattle.compose.specs.Compose.{y_stream, c_stream, build_refusal}
use Rattle.session.specs.Session.{begin_refusal, begun_as, begun, feed_refusal, fed_run, fed_session, fed, fed_y, fed_c, end_refusal, ended_as, ended, session_or, session_left}
use Rattle.law_module.specs.Runs.{bench}
use Rattle.reader.specs.Reader.{read_of}
use Rattle.desk.specs.Desk as Desk
use Rattle.law_file.specs.Serving.{take_left}
use Rattle.law_refusal.proofs.Rows.{numbered, row_number, check_number, extract_number, build_number}
use Rattle.law_refusal.proofs.Files.{take_refusal_by}
use Rattle.demands.specs.Demands.{Test, first_failed, Answers, Keeps, EachCall}
use Rattle.demands.proofs.Cases.{of_test}
use Rattle.demands.proofs.EachByte.{each_byte}

-- ---- a call by its refusal: it answers that number, and after any but 0 leaves what was lent

-- the numbers of some tests are below 8, and so is that of the first that fails
low : List Test → Bool
low [] = true
low (t ∷ ts) = ltb t.number 8 && low ts

first_failed_low : (tests : List Test) → T (low tests) → first_failed tests < 8
unfolding first_failed low
first_failed_low [] l = omega arith
first_failed_low (t ∷ ts) l =
    go t.ok (first_failed_low ts (both_right (ltb t.number 8) (low ts) l)) (ltb→lt t.number 8 (both_left (ltb t.number 8) (low ts) l))
  where
    go : (ok : Bool) → first_failed ts < 8 → t.number < 8 → if ok (first_failed ts) t.number < 8
    go true rest own = rest
    go false rest own = own

module _ {A : Type 0} (work : A) where
  answers : (n : ℕ) {m : ℕ} → n < 8 → n ≡ m → refusal_of (result_of n work) ≡ m
  answers n l p = refusal_of_result work n l ∙ p

  keeps : {tests : List Test} → T (low tests) → {Lent : Type 0} {lent : Lent} (after : ℕ → Lent) → ((n : ℕ) → after (suc n) ≡ lent) → (n : ℕ)
      → Answers tests n → Keeps tests (refusal_of (result_of n work)) lent (after n)
  keeps {tests} l {lent = lent} after kept n p =
      record { number = answers n (omega (arith, p, first_failed_low tests l)) p; kept = go n }
    where
      go : (n : ℕ) → (refusal_of (result_of n work) ≡ 0 → ⊥) → after n ≡ lent
      go zero bad = absurd (bad refl)
      go (suc n) bad = kept n

-- what is told of a timing code
xyz_number : (low exact : Bool) (f v h : Bool)
    → (told (if low (Ok (if exact (Some (fvh f v h)) None)) (Err TooHigh))).refusal ≡ if low 0 3
xyz_number true true f v h = refl
xyz_number true false f v h = refl
xyz_number false exact f v h = refl

-- ---- the calls

pub each_call : EachCall
unfolding low first_failed numbered code_refusal ran cr_words looked_up read_xyz line_read planned Packet.build_refusal Packet.built find_of extracted checked corrected begin_refusal begun feed_refusal fed fed_y fed_c end_refusal ended read_of Desk.taken Desk.taken_y Desk.taken_c Desk.finished
each_call =
    record {
      scramble = λ h ws out.
          keeps (scramble_next h ws) tt (λ n. filled n (scramble_words h ws) out) (λ n. refl) (code_refusal h ws (length out)) refl;
      unscramble = λ h ws out.
          keeps (unscramble_next h ws) tt (λ n. filled n (unscramble_words h ws) out) (λ n. refl) (code_refusal h ws (length out)) refl;
      of_crc_run = λ r ws. of_test refusal_of (register_ok r && words10 ws) _ _;
      of_crc_words = λ r. of_test refusal_of (register_ok r) _ _;
      of_find_sync = found_refusal;
      of_raster_of = λ code. answers (raster_given code) (raster_refusal code) (if_below (raster_ok code) 0 4 (omega arith) (omega arith)) refl;
      of_line_facts = λ code line. line_facts_refusal code line;
      of_plan_of = λ code line. answers (plan_of code line) (line_refusal code line) (line_refusal_below code line) refl;
      of_read_xyz = λ w. xyz_number (leb w 0x3ff) (exact_xyz w) (f_bit w) (v_bit w) (h_bit w);
      of_line_words = λ code line. line_words_refusal code line;
      of_read_line = λ code ln0 ln1.
          answers (unless_zero (line_from code ln0 ln1)) (read_refusal code ln0 ln1)
          (if_below (raster_ok code) _ 4 (if_below (leb ln0 0x3ff && leb ln1 0x3ff) 0 3 (omega arith) (omega arith)) (omega arith)) refl;
      of_build_packet = λ did sdid user out.
          keeps _ tt (λ n. laid_unless n (Packet.packet_of did sdid user) out) (λ n. refl) (Packet.build_refusal did user (length out)) refl;
      of_find_packet = λ code line did sdid y c. (row_number code line y c, unless_refused-refused (row_refusal code line y c) _ []);
      extract = λ code line channel y c out.
          let packets = packets_in code line (channel_of channel y c) in
          keeps (length packets) tt (λ n. laid_unless n packets out) (λ n. refl)
          (extract_refusal code line channel y c (length out)) (extract_number code line y c channel (length out));
      of_check_row = λ code line carry y c.
          answers (judged code line carry y c) (check_refusal code line carry y c) (check_refusal_below code line carry y c) (check_number code line y c carry);
      of_correct_row = λ code line carry wipe y c.
          let p = plan_of code line in
          keeps (carry_after p (corrected_y p carry wipe y) (corrected_c p carry wipe c)) tt
          (λ n. (unless_refused n (corrected_y p carry wipe y) y, unless_refused n (corrected_c p carry wipe c) c)) (λ n. refl)
          (check_refusal code line carry y c) (check_number code line y c carry);
      of_build_row = λ code line carry y_active c_active y_laid c_laid y c.
          let p = plan_of code line in
          keeps _ tt
          (λ n. (laid_unless n (y_stream p carry y_active y_laid) y, laid_unless n (c_stream p carry c_active c_laid) c)) (λ n. refl)
          (build_refusal code line carry y_active c_active y_laid c_laid (length y) (length c))
          (build_number code line carry y_active c_active y_laid c_laid (length y) (length c));
      begin = λ s code. keeps (begun_as code) tt (λ n. session_or s (result_of n (begun_as code))) (λ n. refl) (begin_refusal s code) refl;
      feed = λ ws x.
          let s = x.session in
          let r = fed_run s ws x.y x.c in
          keeps (fed_session s ws r) tt
          (λ n. bench (session_or s (result_of n (fed_session s ws r))) (unless_refused n r.y x.y) (unless_refused n r.c x.c)) (λ n. refl)
          (feed_refusal s ws x.y x.c) refl;
      end = λ s. keeps (ended_as s) tt (λ n. session_left s (result_of n (ended_as s))) (λ n. refl) (end_refusal s) refl;
      read = λ r b. each_byte r.stage r b;
      take = λ bs x.
          let w = Desk.walk_of x.desk bs x.y x.c in
          keeps (Desk.taken_at w) tt
          (λ n. Desk.standing (take_left x.desk (result_of n (Desk.taken_at w))).desk (unless_refused n w.at.y x.y) (unless_refused n w.at.c x.c))
          (λ n. refl) (Desk.take_refusal x.desk x.y x.c) (take_refusal_by x.desk x.y x.c);
      finish = λ d. refl;
    }
