-- The three demands: above each proposition the sentence that it renders. A call's contract is an equation with a definition, so what is said
-- here of the definition is said of what the call answers and leaves. proofs/ proves each.
use Rattle.std.specs.Prelude.{◌≡◌, Bool, true, false, not, ◌&&◌, ◌↔◌, ℕ, ◌+◌, ◌/◌, ◌%◌, ◌≤◌, ◌<◌, leb, eqb, length, drop}
use mathlib.Core.List.{List, [], ◌∷◌, ◌++◌, flat_map}
use Rattle.std.specs.Prelude.{None, Some, Result, Ok, Err}
use Rattle.refusal.specs.declared.Refusal.{Refusal}
use Rattle.std.specs.Result.{result_unwrap_or}
use Rattle.bits.specs.Choice.{if}
use Rattle.bits.specs.Bits.{odd, word_bits}
use Rattle.bits.specs.Words.{words10, reserved_code}
use Rattle.refusal.specs.Refusal.{refusal_of}
use Rattle.raster.specs.Layout.{sync_of, hd_unit}
use Rattle.raster.specs.Table.{meant, raster_ok, looked_up, total_of}
use Rattle.raster.specs.Lines.{line_ok, line_facts}
use Rattle.crc.specs.Crc.{register_ok, ran, cr0, cr1, cr_words}
use Rattle.cable.specs.Words.{scramble_words, unscramble_words, scramble_next, unscramble_next, code_refusal, coded, filled}
use Rattle.cable.specs.Channels.{paired}
use Rattle.align.specs.Sync.{starts_with, sync_refusal, sync_place, found_sync}
use Rattle.timing.specs.Xyz.{xyz_of, fvh, read_xyz, told}
use Rattle.timing.specs.Line.{ln0_of, ln1_of, line_words, line_read}
use Rattle.parts.specs.Parts.{part, any, laid, end_to_end, unless_refused, laid_unless}
use Rattle.scan.specs.Packet.{checksum_of}
use Rattle.plan.specs.Plan.{plan_of, planned}
use Rattle.plan.specs.Refusal.{row_refusal}
use Rattle.packet.specs.Build as Packet
use Rattle.packet.specs.Build.{buildable}
use Rattle.finding.specs.declared.Channel.{Channel}
use Rattle.finding.specs.Find.{find_of}
use Rattle.finding.specs.Extract.{channel_of, packets_in, extract_refusal, extracted}
use Rattle.stream.specs.Words.{y_blank, c_blank}
use Rattle.row.specs.Before.{Carry, carried, carry_ok}
use Rattle.row.specs.declared.Judged.{Judged}
use Rattle.row.specs.Row.{flags_of, check_refusal, checked}
use Rattle.repair.specs.Repair.{wiped_if}
use Rattle.repair.specs.Answer.{corrected_y, corrected_c, corrected}
use Rattle.compose.specs.Compose.{y_stream, c_stream, room_ok, build_refusal, built_for}
use Rattle.law_row.specs.Lawful.{right_packet}
use Rattle.law_row.specs.Laid.{LawfulLine, PlaceAfter}
use Rattle.law_row.specs.MadeWords.{made_words, sums_of}
use Rattle.law_burst.specs.Stretch.{crc_flagged, BurstFlagged}
use Rattle.law_burst.specs.TwoRows.{total, next_checked, TwoRows, Struck}
use Rattle.tally.specs.declared.Verdict.TheVariants.{NoSignal}
use Rattle.tally.specs.Tally.{no_counts}
use Rattle.session.specs.declared.Session.{Session}
use Rattle.session.specs.declared.Ended.{Ended}
use Rattle.session.specs.Session.{closed, in_range, begin_refusal, begun, feed_refusal, fed, ended, session_or, session_left}
use Rattle.law_module.specs.Module.{Answer, module_of}
use Rattle.law_module.specs.Runs.{Bench, fed_once, fed_all, started, answered, left, Fits}
use Rattle.law_clean.specs.Signal.{CleanPasses, CleanPassesShort, WindowPasses}
use Rattle.law_struck.specs.Struck.{StruckFails}
use Rattle.reader.specs.declared.Stage.{Stage}
use Rattle.reader.specs.declared.Stage.TheVariants.{TagCount, TagBytes, OptionsCount, RasterByte, WipeByte, WordCount, LowByte, HighByte, Stopped}
use Rattle.reader.specs.declared.Reader.{Reader}
use Rattle.reader.specs.Reader.{tag_size_ok, printable, options_size_ok, wipe_ok, word_of, word_ok, read_of, is_cut}
use Rattle.desk.specs.declared.Outcome.{Outcome}
use Rattle.desk.specs.declared.Outcome.TheVariants.{Nothing, Done, BadFile}
use Rattle.desk.specs.declared.Desk.{Desk}
use Rattle.desk.specs.Desk as Desk
use Rattle.law_file.specs.File.{outcomes_of}
use Rattle.law_file.specs.Serving.{take_left, after_take}
use Rattle.law_file.specs.Promises.{NeverRefused, ServedAlike, PiecesServed, BenchPrints, JobAlone, RefusedAlone}
use Rattle.law_refusal.specs.Answers.{Refused}
use Rattle.law_refusal.specs.Rows.{rows_ok, parts_ok, words_ok}
use Rattle.law_refusal.specs.Files.{count_ok, ready, roomy}
use Rattle.demands.specs.Numbers.{NumbersHold}

-- ==== Demand 1

-- ---- "Any words, lengths, line numbers and choices may be handed in. Each call does its work or returns one number of the refusal table,
-- ---- and a refused call changes nothing that it was lent."

-- a number of the table, and a test that fails where the number's condition holds
pub record Test : Type 0 where
  pub number : ℕ
  pub ok : Bool

infix 70 ◌unless◌
abbrev pub ◌unless◌ : ℕ → Bool → Test
n unless ok = record { number = n; ok = ok }

-- the number of the first test that fails, in this order; 0, done, where none does, and only there, for 0 is no test's number
unfoldable pub first_failed : List Test → ℕ
first_failed [] = 0
first_failed (t ∷ ts) = if t.ok (first_failed ts) t.number

-- this number is answered
abbrev pub Answers : List Test → ℕ → Type 0
Answers tests n = n ≡ first_failed tests

-- .. and where it is not 0, what was lent is afterwards as it was
pub record Keeps {Lent : Type 0} (tests : List Test) (n : ℕ) (lent after : Lent) : Type 0 where
  pub number : Answers tests n
  pub kept : Refused n → after ≡ lent

-- the tests of a byte of a bench file, by the stage at which it is read
abbrev pub byte_tests : Stage → Reader → ℕ → List Test
byte_tests TagCount r b = 9 unless count_ok tag_size_ok r b ∷ []
byte_tests TagBytes r b = 9 unless printable b ∷ []
byte_tests OptionsCount r b = 9 unless count_ok options_size_ok r b ∷ []
byte_tests RasterByte r b = []
byte_tests WipeByte r b = 9 unless wipe_ok b ∷ 4 unless raster_ok r.options.raster ∷ []
byte_tests WordCount r b = []
byte_tests LowByte r b = []
byte_tests HighByte r b = 3 unless word_ok (word_of r.low b) ∷ []
byte_tests Stopped r b = []

-- The calls that can refuse, each with its tests, "Order where several apply: 7, 9, 4, 5, 2, 3, 6, .., 1.": which number is answered, and that it is
-- 0 where no condition holds. What is done then is the call's definition. A call for the number alone (`row_refusal`, `find_refusal`,
-- `check_refusal`) answers it as the call that it stands for does.
pub record EachCall : Type 0 where
  pub scramble : (h : ℕ) (ws out : List ℕ)
      → Keeps (3 unless leb h 0x3ff ∷ 3 unless words10 ws ∷ 1 unless leb (length ws) (length out) ∷ [])
      (refusal_of (coded (code_refusal h ws (length out)) (scramble_next h ws))) out
      (filled (code_refusal h ws (length out)) (scramble_words h ws) out)
  pub unscramble : (h : ℕ) (ws out : List ℕ)
      → Keeps (3 unless leb h 0x3ff ∷ 3 unless words10 ws ∷ 1 unless leb (length ws) (length out) ∷ [])
      (refusal_of (coded (code_refusal h ws (length out)) (unscramble_next h ws))) out
      (filled (code_refusal h ws (length out)) (unscramble_words h ws) out)
  pub of_crc_run : (r : ℕ) (ws : List ℕ) → Answers (3 unless (register_ok r && words10 ws) ∷ []) (refusal_of (ran r ws))
  pub of_crc_words : (r : ℕ) → Answers (3 unless register_ok r ∷ []) (refusal_of (cr_words r))
  pub of_find_sync : (ws : List ℕ) → Answers (3 unless words10 ws ∷ []) (sync_refusal (found_sync ws))
  pub of_raster_of : (code : ℕ) → Answers (4 unless raster_ok code ∷ []) (refusal_of (looked_up code))
  pub of_line_facts : (code line : ℕ) → Answers (4 unless raster_ok code ∷ 5 unless line_ok code line ∷ []) (refusal_of (line_facts code line))
  pub of_plan_of : (code line : ℕ) → Answers (4 unless raster_ok code ∷ 5 unless line_ok code line ∷ []) (refusal_of (planned code line))
  pub of_read_xyz : (w : ℕ) → Answers (3 unless leb w 0x3ff ∷ []) (told (read_xyz w)).refusal
  pub of_line_words : (code line : ℕ) → Answers (4 unless raster_ok code ∷ 5 unless line_ok code line ∷ []) (refusal_of (line_words code line))
  pub of_read_line : (code ln0 ln1 : ℕ) → Answers (4 unless raster_ok code ∷ 3 unless (leb ln0 0x3ff && leb ln1 0x3ff) ∷ []) (refusal_of (line_read code ln0 ln1))
  pub of_build_packet : (did sdid : ℕ) (user out : List ℕ)
      → Keeps (3 unless words10 user ∷ 6 unless buildable did user ∷ 1 unless leb (length user + 7) (length out) ∷ [])
      (refusal_of (Packet.built did user (length out))) out
      (laid_unless (Packet.build_refusal did user (length out)) (Packet.packet_of did sdid user) out)
  -- find answers a part, an empty one where it is refused
  pub of_find_packet : (code line did sdid : ℕ) (y c : List ℕ)
      → Answers (4 unless raster_ok code ∷ 5 unless line_ok code line ∷ 2 unless rows_ok code y c ∷ 3 unless words_ok y c ∷ []) (row_refusal code line y c)
      × (Refused (row_refusal code line y c) → find_of code line did sdid y c ≡ [])
  pub extract : (code line : ℕ) (channel : Channel) (y c out : List ℕ)
      → let packets = packets_in code line (channel_of channel y c) in
      Keeps
      (4 unless raster_ok code
      ∷ 5 unless line_ok code line
      ∷ 2 unless rows_ok code y c
      ∷ 3 unless words_ok y c
      ∷ 1 unless leb (length packets) (length out)
      ∷ [])
      (refusal_of (extracted code line channel y c (length out))) out (laid_unless (extract_refusal code line channel y c (length out)) packets out)
  pub of_check_row : (code line : ℕ) (carry : Carry) (y c : List ℕ)
      → Answers
      (4 unless raster_ok code ∷ 5 unless line_ok code line ∷ 2 unless rows_ok code y c ∷ 3 unless (words_ok y c && carry_ok carry) ∷ [])
      (refusal_of (checked code line carry y c))
  pub of_correct_row : (code line : ℕ) (carry : Carry) (wipe : Bool) (y c : List ℕ)
      → let n = check_refusal code line carry y c in
      Keeps {Lent = List ℕ × List ℕ}
      (4 unless raster_ok code ∷ 5 unless line_ok code line ∷ 2 unless rows_ok code y c ∷ 3 unless (words_ok y c && carry_ok carry) ∷ [])
      (refusal_of (corrected code line carry wipe y c)) (y, c)
      (unless_refused n (corrected_y (plan_of code line) carry wipe y) y, unless_refused n (corrected_c (plan_of code line) carry wipe c) c)
  pub of_build_row : (code line : ℕ) (carry : Carry) (y_active c_active y_laid c_laid y c : List ℕ)
      → let p = plan_of code line in
      let n = build_refusal code line carry y_active c_active y_laid c_laid (length y) (length c) in
      Keeps {Lent = List ℕ × List ℕ}
      (4 unless raster_ok code
      ∷ 5 unless line_ok code line
      ∷ 2 unless parts_ok p y_active c_active y_laid c_laid
      ∷ 3 unless (words_ok y_active y_laid && (words_ok c_active c_laid && carry_ok carry))
      ∷ 1 unless room_ok p (length y) (length c)
      ∷ [])
      (refusal_of (built_for n y_active c_active)) (y, c)
      (laid_unless n (y_stream p carry y_active y_laid) y, laid_unless n (c_stream p carry c_active c_laid) c)
  pub begin : (s : Session) (code : ℕ)
      → Keeps (7 unless (not s.running && in_range s) ∷ 4 unless raster_ok code ∷ []) (refusal_of (begun s code)) s (session_or s (begun s code))
  pub feed : (ws : List ℕ) (x : Bench)
      → let s = x.session in
      let row_words = total_of s.raster in
      Keeps
      (7 unless (s.running && in_range s) ∷ 3 unless words10 ws ∷ 1 unless (leb row_words (length x.y) && leb row_words (length x.c)) ∷ [])
      (refusal_of (fed s ws x.y x.c)) x (fed_once ws x)
  pub end : (s : Session) → Keeps (7 unless (s.running && in_range s) ∷ []) (refusal_of (ended s)) s (session_left s (ended s))
  pub read : (r : Reader) (b : ℕ) → Answers (byte_tests r.stage r b) (refusal_of (read_of r b))
  pub take : (bs : List ℕ) (x : Desk.Standing)
      → Keeps (7 unless ready x.desk ∷ 1 unless roomy x.y x.c ∷ []) (refusal_of (Desk.taken x.desk bs x.y x.c)) x (after_take bs x)
  -- finish answers an outcome: "9: bench file: .. cut short", or nothing
  pub finish : (d : Desk) → Desk.finished d ≡ if (is_cut d.reader) (Desk.bad_file 9) Desk.nothing

-- .. and of a bench file each outcome is a job that is done, or `bad file` with 9, 4 or 3
abbrev pub outcome_ok : Outcome → Bool
outcome_ok Nothing = false
outcome_ok (Done j) = true
outcome_ok (BadFile n) = any (eqb n) (9 ∷ 4 ∷ 3 ∷ [])

unfoldable pub EachOutcome : Type 0
EachOutcome = (bs : List ℕ) → any (λ o. not (outcome_ok o)) (outcomes_of bs) ≡ false

-- (the table's 7) ".. which no session answered by a call here has"
pub record InRange : Type 0 where
  pub fresh : in_range closed ≡ true
  pub begin : (s : Session) (code : ℕ) → in_range s ≡ true → in_range (session_or s (begun s code)) ≡ true
  pub feed : (s : Session) (ws y c : List ℕ) → in_range s ≡ true → in_range (session_or s (fed s ws y c)) ≡ true
  pub end : (s : Session) → in_range s ≡ true → in_range (session_left s (ended s)) ≡ true
  pub take : (d : Desk) (bs y c : List ℕ) → in_range d.session ≡ true → in_range (take_left d (Desk.taken d bs y c)).desk.session ≡ true

-- ---- "A module's verdict depends only on its own words and its chosen raster; what the module before left in the bench or its buffers
-- ---- counts for nothing."

-- what end answers of a module, with the closed session
abbrev pub end_of : Answer → Result Ended Refusal
end_of a = Ok (record { raster = a.raster; counts = a.counts; verdict = a.verdict; session = closed })

-- on this bench, whatever its buffers hold, the raster is begun and the words are taken
abbrev pub Runs : ℕ → List ℕ → Bench → Type 0
Runs code ws x = (begin_refusal x.session code ≡ 0) × (feed_refusal (started code x).session ws x.y x.c ≡ 0)

-- the answer is that of the raster and the words, in whatever feeds they come: in `module_of` there is no session and no buffer
unfoldable pub VerdictOwn : Type 0
VerdictOwn = (code : ℕ) (feeds : List (List ℕ)) (x : Bench) → Runs code (end_to_end feeds) x → answered code feeds x ≡ end_of (module_of code (end_to_end feeds))

-- so two runs of the same raster and words answer the same: cut anywhere, in any buffers, after any module
unfoldable pub SameVerdict : Type 0
SameVerdict = (code : ℕ) (feeds others : List (List ℕ)) (x z : Bench) → Runs code (end_to_end feeds) x → Runs code (end_to_end others) z
    → end_to_end feeds ≡ end_to_end others → answered code feeds x ≡ answered code others z

-- a bench between modules: no session is open, and its numbers are in range
abbrev pub Between : Bench → Type 0
Between x = (x.session.running ≡ false) × (in_range x.session ≡ true)

-- .. as any module leaves it, with refused calls or without
unfoldable pub LeftBetween : Type 0
LeftBetween = (code : ℕ) (feeds : List (List ℕ)) (x : Bench) → in_range x.session ≡ true → Between (left code feeds x)

-- the words of the feeds in which none is above 3FF, in order
abbrev pub sound : List (List ℕ) → List ℕ
sound feeds = flat_map (λ ws. if (words10 ws) ws []) feeds

-- where feeds were refused on the way for a word above 3FF, the words are those of the others: again a matter of raster and words alone
unfoldable pub TakenAlone : Type 0
TakenAlone = (code : ℕ) (feeds : List (List ℕ)) (x : Bench) → raster_ok code ≡ true → Between x → Fits code x.y x.c
    → answered code feeds x ≡ end_of (module_of code (sound feeds))

-- where a buffer is too short for the raster's T every feed is refused (`EachCall`): the answer is that of no words
unfoldable pub NothingTaken : Type 0
NothingTaken = (code : ℕ) (feeds : List (List ℕ)) (x : Bench) → raster_ok code ≡ true → Between x → (Fits code x.y x.c → ⊥)
    → answered code feeds x ≡ end_of (module_of code [])

-- and a module without words, after whatever module: NO SIGNAL, no row and no fault
unfoldable pub NothingLeft : Type 0
NothingLeft = (code : ℕ) (x : Bench) → raster_ok code ≡ true → Between x
    → answered code [] x ≡ end_of (record { raster = meant code; counts = no_counts; verdict = NoSignal })

-- In the bench file, from a desk between jobs and with row buffers that hold any raster's row: no call of the desk is refused on the way; in
-- whatever pieces the bytes arrive, and whatever session and buffers were there before, the same is told and printed, the file's own outcomes.
-- A job's line depends on that job's bytes alone, and what stands after a refusal changes nothing.
pub record DemandOne : Type 0 where
  pub calls : EachCall
  pub outcomes : EachOutcome
  pub in_range_holds : InRange
  pub own : VerdictOwn
  pub same : SameVerdict
  pub between : LeftBetween
  pub taken_alone : TakenAlone
  pub nothing-taken : NothingTaken
  pub nothing_left : NothingLeft
  pub never_refused : NeverRefused
  pub served_alike : ServedAlike
  pub pieces_served : PiecesServed
  pub bench_prints : BenchPrints
  pub job_alone : JobAlone
  pub refused_alone : RefusedAlone

-- ==== Demand 2

-- ---- "Scrambling, alignment, timing codes, line numbers, check codes and packets mean what SMPTE ST 292-1 and ST 291-1 say, read or written."
-- ---- The definitions say what; the published numbers hold of them (`NumbersHold`), and what is written is read back.

-- "From any two histories, unscrambled bits agree from the eleventh on."
unfoldable pub FromTheEleventh : Type 0
FromTheEleventh = (g h : ℕ) (ws : List ℕ) → drop 10 (word_bits (unscramble_words g ws)) ≡ drop 10 (word_bits (unscramble_words h ws))

-- "A sync is 20 ones then 40 zeros": one starts at this bit
abbrev pub sync_starts : ℕ → List ℕ → Bool
sync_starts place ws = starts_with (sync_of hd_unit) (drop place (word_bits ws))

-- "Finding alignment .. answers the bit place of the first sync, from 0, or none."
pub record FirstSync : Type 0 where
  pub found : (ws : List ℕ) (n : ℕ) → sync_place (found_sync ws) ≡ Some n
      → (sync_starts n ws ≡ true) × ((k : ℕ) → k < n → sync_starts k ws ≡ false)
  pub nowhere : (ws : List ℕ) → words10 ws ≡ true → sync_place (found_sync ws) ≡ None → (k : ℕ) → sync_starts k ws ≡ false

-- "Reading answers F, V and H, or not exact.": F, V and H exactly of the word that is built of them
unfoldable pub XyzReadBack : Type 0
XyzReadBack = (w : ℕ) (f v h : Bool) → read_xyz w ≡ Ok (Some (fvh f v h)) ↔ w ≡ xyz_of f v h

-- "reading answers the line, or 0 if not exact or not in 1..N": a line exactly of the words that are built of it
unfoldable pub LineReadBack : Type 0
LineReadBack = (code line ln0 ln1 : ℕ) → line_read code ln0 ln1 ≡ Ok (Some line) ↔ line_words code line ≡ Ok (record { ln0 = ln0; ln1 = ln1 })

-- the packet that building leaves at the start of its output
abbrev pub built_packet : ℕ → ℕ → List ℕ → List ℕ → List ℕ
built_packet did sdid user out =
    part 0 (result_unwrap_or (Packet.built did user (length out)) 0)
    (laid_unless (Packet.build_refusal did user (length out)) (Packet.packet_of did sdid user) out)

-- it is whole and has a right checksum: one of the packets that a line may be built from (`LawfulLine`)
unfoldable pub PacketRight : Type 0
PacketRight = (did sdid : ℕ) (user out : List ℕ) → refusal_of (Packet.built did user (length out)) ≡ 0 → right_packet (built_packet did sdid user out) ≡ true

-- "A packet is found by its DID and SDID bytes.": one that is built and laid into the blanking of Y, after whole packets of which none is
-- wanted or at the start, is found, whatever the other words of the row are
unfoldable pub PacketFound : Type 0
PacketFound = (code line did sdid at : ℕ) (user out y c : List ℕ) (packets : List (List ℕ))
    → did < 256
    → sdid < 256
    → refusal_of (Packet.built did user (length out)) ≡ 0
    → row_refusal code line y c ≡ 0
    → PlaceAfter code line did sdid user y at packets
    → find_of code line did sdid (laid at (built_packet did sdid user out) y) c ≡ built_packet did sdid user out

-- ---- "Unscrambling what was scrambled from the same start gives back the words.": the second call is accepted where the first is, and both
-- ---- go on from the same history
unfoldable pub UnscrambledBack : Type 0
UnscrambledBack = (h : ℕ) (ws : List ℕ) → words10 ws ≡ true
    → ((room : ℕ) → code_refusal h (scramble_words h ws) room ≡ code_refusal h ws room)
    × (unscramble_words h (scramble_words h ws) ≡ ws)
    × (unscramble_next h (scramble_words h ws) ≡ scramble_next h ws)

-- words after words: from the history that the first call answers, a second goes on as one call of all the words does
abbrev pub GoesOn : (ℕ → List ℕ → List ℕ) → (ℕ → List ℕ → ℕ) → Type 0
GoesOn words next = (h : ℕ) (ws vs : List ℕ)
    → (next h ws ≤ 0x3ff)
    × (words h (ws ++ vs) ≡ words h ws ++ words (next h ws) vs)
    × (next h (ws ++ vs) ≡ next (next h ws) vs)

pub record CallsCut : Type 0 where
  pub scramble : GoesOn scramble_words scramble_next
  pub unscramble : GoesOn unscramble_words unscramble_next

-- ---- "A line built by us from lawful words and whole packets, checked after the same line before it, shows no flag."

-- the row that building leaves at the start of a buffer
abbrev pub built_row : ℕ → ℕ → List ℕ → List ℕ → List ℕ
built_row code line stream buffer = part 0 (total code line) (laid_unless 0 stream buffer)

-- checked with the carry with which it was built: no flag, and the carry that building answered
unfoldable pub BuiltNoFlag : Type 0
BuiltNoFlag = (code line : ℕ) (carry : Carry) (y_active c_active y_laid c_laid y c : List ℕ) (y_packets c_packets : List (List ℕ))
    → build_refusal code line carry y_active c_active y_laid c_laid (length y) (length c) ≡ 0
    → LawfulLine y_active c_active y_laid c_laid y_packets c_packets
    → let p = plan_of code line in
    checked code line carry (built_row code line (y_stream p carry y_active y_laid) y) (built_row code line (c_stream p carry c_active c_laid) c)
    ≡ Ok (record { flags = 0; carry = result_unwrap_or (built_for 0 y_active c_active) None })

-- the packets that extraction leaves at the start of its output
abbrev pub extracted_packets : ℕ → ℕ → Channel → List ℕ → List ℕ → List ℕ → List ℕ
extracted_packets code line channel y c out =
    part 0 (result_unwrap_or (extracted code line channel y c (length out)) 0)
    (laid_unless (extract_refusal code line channel y c (length out)) (packets_in code line (channel_of channel y c)) out)

-- "Extraction copies all whole packets of a channel, in order, end to end.": of a line so built, with any carry or none, they are exactly those
-- that were laid into its blanking, also where V is 1 and its active words are searched too; and an output that is long enough gets them
unfoldable pub RowExtracted : Type 0
RowExtracted = (code line : ℕ) (carry : Carry) (y_active c_active y_laid c_laid y c : List ℕ) (y_packets c_packets : List (List ℕ))
    → build_refusal code line carry y_active c_active y_laid c_laid (length y) (length c) ≡ 0
    → LawfulLine y_active c_active y_laid c_laid y_packets c_packets
    → (channel : Channel) (out : List ℕ)
    → let p = plan_of code line in
    let y_row = built_row code line (y_stream p carry y_active y_laid) y in
    let c_row = built_row code line (c_stream p carry c_active c_laid) c in
    let packets = channel_of channel y_laid c_laid in
    (packets_in code line (channel_of channel y_row c_row) ≡ packets)
    × (length packets ≤ length out
    → (extracted code line channel y_row c_row (length out) ≡ Ok (length packets))
    × (extracted_packets code line channel y_row c_row out ≡ packets))

-- the flags that a check shows; none where it is refused
abbrev pub flags_shown : Result Judged Refusal → ℕ
flags_shown (Ok j) = j.flags
flags_shown (Err refusal) = 0

-- "Rechecked with the same carried CRC, flags 0 to 6 are clear; 7 and 8 remain as they were. If wiping is chosen, .. all else, flag 7 too,
-- then follows from the wiped row.": 128 parts flags 0 to 6 from 7 and 8
unfoldable pub CorrectedFlags : Type 0
CorrectedFlags = (code line : ℕ) (carry : Carry) (wipe : Bool) (y c : List ℕ) → check_refusal code line carry y c ≡ 0
    → let p = plan_of code line in
    let seen = checked code line carry (corrected_y p carry wipe y) (corrected_c p carry wipe c) in
    (refusal_of seen ≡ 0)
    × (flags_shown seen % 128 ≡ 0)
    × (flags_shown seen / 128 ≡ flags_of p carry (wiped_if wipe p y_blank y) (wiped_if wipe p c_blank c) / 128)
    × (wipe ≡ false → flags_shown seen / 128 ≡ flags_shown (checked code line carry y c) / 128)

-- "Cutting the words anywhere into feeds changes nothing.": where all of them are taken in one feed, pieces of them leave the same
unfoldable pub FeedsCut : Type 0
FeedsCut = (feeds : List (List ℕ)) (x : Bench) → feed_refusal x.session (end_to_end feeds) x.y x.c ≡ 0 → fed_all feeds x ≡ fed_once (end_to_end feeds) x

-- ---- (request 7) "Every word we make has bit 9 the inverse of bit 8, or is one of the eight timing codes ..": "no made XYZ, line number, CRC,
-- ---- checksum or header word falls in the reserved ranges for any input"

-- a word of ten bits with bit 9 the inverse of bit 8
abbrev pub Inverse : ℕ → Type 0
Inverse w = (w ≤ 0x3ff) × (odd (w / 512) ≡ not (odd (w / 256)))

-- none of these words is a reserved code
abbrev pub Free : List ℕ → Type 0
Free ws = any reserved_code ws ≡ false

-- the one law, and each kind of word: any F, V and H, any line of any raster, any register, any words summed, any byte
pub record NoneReserved : Type 0 where
  pub inverse : (w : ℕ) → Inverse w → Free (w ∷ [])
  pub xyz : (f v h : Bool) → Free (xyz_of f v h ∷ [])
  pub line_number : (line : ℕ) → Inverse (ln0_of line) × Inverse (ln1_of line)
  pub crc : (register : ℕ) → Inverse (cr0 register) × Inverse (cr1 register)
  pub checksum : (ws : List ℕ) → Inverse (checksum_of ws)
  pub header : (byte : ℕ) → Inverse (Packet.header_word byte)
  -- so of what the calls leave: a packet after its 000 3FF 3FF; of a row that is built, in both channels, what is made; and of one that is corrected,
  -- its checksums too
  pub packet : (did sdid : ℕ) (user out : List ℕ) → refusal_of (Packet.built did user (length out)) ≡ 0
      → Free (drop 3 (built_packet did sdid user out))
  pub row : (code line : ℕ) (carry : Carry) (y_active c_active y_laid c_laid y c : List ℕ)
      → build_refusal code line carry y_active c_active y_laid c_laid (length y) (length c) ≡ 0
      → let p = plan_of code line in
      Free (made_words p true (built_row code line (y_stream p carry y_active y_laid) y))
      × Free (made_words p true (built_row code line (c_stream p carry c_active c_laid) c))
  pub corrected : (code line : ℕ) (carry : Carry) (wipe : Bool) (y c : List ℕ) → check_refusal code line carry y c ≡ 0
      → let p = plan_of code line in
      let known = (carried carry).known in
      let y_row = corrected_y p carry wipe y in
      let c_row = corrected_c p carry wipe c in
      Free (made_words p known y_row ++ sums_of p y_row) × Free (made_words p known c_row ++ sums_of p c_row)

-- A clean signal passes: N + 2 lines or more built one after the other, the first with any carry or none, each other with that of the line before,
-- of words and packets as above, in which no word after the 000 3FF 3FF is a reserved code; after bits in which each sync's pair ends and is no EAV, and
-- before fewer than 53 bits, or fewer than 80 in which no sync ends but one that starts with them. All of them count but the first and the last, up to
-- the ceiling. And a capture from the cable of such lines passes, wherever it is cut out of them, if it is longer than N + 3 lines.
pub record DemandTwo : Type 0 where
  pub numbers : NumbersHold
  pub eleventh : FromTheEleventh
  pub alignment : FirstSync
  pub xyz : XyzReadBack
  pub line : LineReadBack
  pub packet_right : PacketRight
  pub packet-found : PacketFound
  pub unscrambled_back : UnscrambledBack
  pub calls_cut : CallsCut
  pub built_no_flag : BuiltNoFlag
  pub row_extracted : RowExtracted
  pub corrected_flags : CorrectedFlags
  pub feeds_cut : FeedsCut
  pub none_reserved : NoneReserved
  pub clean_passes : CleanPasses
  pub clean_passes_short : CleanPassesShort
  pub window_passes : WindowPasses

-- ==== Demand 3

-- ---- "In a stretch of cable bits from the first active words of a line through the next line number, with both channels' check codes right,
-- ---- change one or more bits inside a run of at most eighteen cable bits, the run and the ten bits after it inside the stretch: cut at the
-- ---- same place and unscrambled from the same start, at least one check code is flagged."

-- by the calls: two streams of two lines, unscrambled, parted into channels, and checked one line after the other
unfoldable pub RowsStruck : Type 0
RowsStruck = (code line next : ℕ) (carry : Carry) (history : ℕ) (one other y_one c_one y_other c_other : List ℕ) (before a m n z : List Bool)
    → TwoRows code line next carry history one (length one) (length y_one) (length c_one)
    → TwoRows code line next carry history other (length other) (length y_other) (length c_other)
    → paired c_one y_one ≡ unscramble_words history one
    → paired c_other y_other ≡ unscramble_words history other
    → Struck code line one other before a m n z
    → crc_flagged (flags_shown (next_checked code line next carry y_one c_one)) ≡ false
    → crc_flagged (flags_shown (next_checked code line next carry y_other c_other)) ≡ true

-- of the bits, at every alignment; by the calls; and the module's verdict is FAIL
pub record DemandThree : Type 0 where
  pub burst_flagged : BurstFlagged
  pub rows_struck : RowsStruck
  pub struck_fails : StruckFails
