-- Happenings of which a test does not hold: none dropped a row, or none was a fault.
use mathlib.Core.Path.{◌≡◌, refl, sym, ap, ◌∙◌}
use mathlib.Core.Bool.{Bool, true, false}
use mathlib.Core.List.{List, [], ◌∷◌, ◌++◌}
use Prim.Native.Nat.{ℕ}
use lib.Dec.{eqb}
use borrow.Author.Tests.{eqb-true, not-false}
use Rattle.bits.proofs.Choice.{or_none}
use Rattle.raster.specs.Table.{total_of}
use Rattle.parts.specs.Parts.{any}
use Rattle.parts.proofs.Comparing.{any_of_append, any_cons}
use Rattle.judging.specs.declared.Happening.{Happening}
use Rattle.judging.specs.declared.Happening.TheVariants.{Quiet, RowJudged, Unnumbered, DroppedEarly, DroppedLate, DroppedAstray}
use Rattle.judging.specs.Happening.{happenings}
use Rattle.stepper.specs.Step.{steps, traced}
use Rattle.tally.specs.Tally.{is_fault}
use Rattle.stepper.proofs.Stepping.{steps_of_append}
use Rattle.law_module.specs.Module.{listed, begun_run, after_bits}
use Rattle.law_module.proofs.Folds.{traced_of_append}
use Rattle.law_struck.specs.Struck.{happenings_after}

-- ---- happenings that drop a row

abbrev pub is_dropped : Happening → Bool
is_dropped Quiet = false
is_dropped (RowJudged line flags known) = false
is_dropped Unnumbered = false
is_dropped DroppedEarly = true
is_dropped DroppedLate = true
is_dropped DroppedAstray = true

-- of no happening of a list does a test hold
abbrev pub None : (Happening → Bool) → List Happening → Type 0
None f hs = any f hs ≡ false

pub none_of_append : (f : Happening → Bool) (hs gs : List Happening) → None f (hs ++ gs) → None f hs × None f gs
none_of_append f hs gs n = or_none (any f hs) (any f gs) (sym (any_of_append f hs gs) ∙ n)

none_of_one : (f : Happening → Bool) (h : Happening) → None f (h ∷ []) → f h ≡ false
none_of_one f h n = (any_cons f h [] n).0

pub not_dropped : (h : Happening) → None is_dropped (happenings h) → is_dropped h ≡ false
not_dropped Quiet n = refl
not_dropped (RowJudged line flags known) n = refl
not_dropped Unnumbered n = refl
not_dropped h n = none_of_one is_dropped h n

-- ---- a dropped row is a fault

dropped_fault : (h : Happening) → is_fault h ≡ false → is_dropped h ≡ false
dropped_fault Quiet e = refl
dropped_fault (RowJudged line flags known) e = refl
dropped_fault Unnumbered e = refl
dropped_fault _ e = e

pub none_dropped : (hs : List Happening) → None is_fault hs → None is_dropped hs
unfolding any
none_dropped [] n = refl
none_dropped (h ∷ hs) n =
    let e = any_cons is_fault h hs n in
    rw (dropped_fault h e.0) (none_dropped hs e.1)

-- ---- a row that is no fault

pub no_flags : {l f : ℕ} {known : Bool} (hs : List Happening) → hs ≡ RowJudged l f known ∷ [] → None is_fault hs → f ≡ 0
no_flags {l} {f} {known} hs e none =
    eqb-true f 0 (not-false (eqb f 0) (none_of_one is_fault (RowJudged l f known) (ap (any is_fault) (sym e) ∙ none)))

-- ---- the happenings of a stream's parts

pub none_of_parts : (f : Happening → Bool) (code : ℕ) (bs before one two after : List Bool) → bs ≡ before ++ (one ++ (two ++ after))
    → None f (traced listed code (total_of code) bs begun_run) → None f (happenings_after code before one) × None f (happenings_after code (before ++ one) two)
none_of_parts f code bs before one two after stream none =
    let total = total_of code in
    let x = after_bits code before in
    let all : None f (traced listed code total before begun_run ++ traced listed code total (one ++ (two ++ after)) x) =
    ap (any f) (sym (ap (λ (l : List Bool). traced listed code total l begun_run) stream ∙ traced_of_append listed code total before (one ++ (two ++ after)) begun_run)) ∙ none in
    let rows : None f (traced listed code total one x ++ traced listed code total (two ++ after) (steps listed code total one x)) =
    ap (any f) (sym (traced_of_append listed code total one (two ++ after) x)) ∙ (none_of_append f (traced listed code total before begun_run) _ all).1 in
    let parts = none_of_append f (traced listed code total one x) _ rows in
    let next : None f (traced listed code total two (steps listed code total one x) ++ traced listed code total after (steps listed code total two (steps listed code total one x))) =
    ap (any f) (sym (traced_of_append listed code total two after (steps listed code total one x))) ∙ parts.1 in
    (parts.0, rw (steps_of_append listed code total before one begun_run) (none_of_append f (traced listed code total two (steps listed code total one x)) _ next).0)
