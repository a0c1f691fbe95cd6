-- A reading goes on alike with more bytes behind those that it reads.
use mathlib.Core.Path.{◌≡◌, refl, ap}
use mathlib.Core.Bool.{Bool, true, false}
use mathlib.Core.List.{List, [], ◌∷◌, ◌++◌}
use Prim.Native.Nat.{ℕ, zero, suc}
use Rattle.bits.specs.Choice.{if}
use Rattle.raster.specs.Table.{raster_ok}
use Rattle.reader.specs.Reader.{tag_size_ok, printable, options_size_ok, wipe_ok, word_of, word_ok}
use Rattle.law_file.specs.File.{Got, got, cut, wrong, then, byte_read, count_read, tag_bytes_read, tag_read, options_of, options_read, words_read, job_read}

-- what was read with bytes g behind (the second) against what was read without them (the first): the same thing with g after its rest,
-- or the same refusal; where the bytes were cut short, anything
abbrev pub Ahead : {A : Type 0} → List ℕ → Got A → Got A → Type 0
Ahead g (got x rest) y = y ≡ got x (rest ++ g)
Ahead g cut y = Unit
Ahead g (wrong n) y = y ≡ wrong n

abbrev pub Steady : {A : Type 0} → (List ℕ → Got A) → Type 0
Steady r = (bs g : List ℕ) → Ahead g (r bs) (r (bs ++ g))

-- ---- one thing after another, and a case by a test

then_ahead : {A B : Type 0} (g : List ℕ) (x y : Got A) (f : A → List ℕ → Got B)
    → Ahead g x y → ((a : A) → Steady (f a)) → Ahead g (then x f) (then y f)
then_ahead g (got a rest) y f e h = rw e (h a rest g)
then_ahead g cut y f e h = tt
then_ahead g (wrong n) y f e h = ap (λ z. then z f) e

then_steady : {A B : Type 0} (r : List ℕ → Got A) (f : A → List ℕ → Got B) → Steady r → ((a : A) → Steady (f a)) → Steady (λ bs. then (r bs) f)
then_steady r f s h bs g = then_ahead g (r bs) (r (bs ++ g)) f (s bs g) h

if_steady : {A : Type 0} (b : Bool) (r q : List ℕ → Got A) → Steady r → Steady q → Steady (λ bs. if b (r bs) (q bs))
if_steady true r q s t = s
if_steady false r q s t = t

got_steady : {A : Type 0} (x : A) → Steady (λ rest. got x rest)
got_steady x bs g = refl

wrong_steady : {A : Type 0} (n : ℕ) → Steady {A = A} (λ rest. wrong n)
wrong_steady n bs g = refl

-- ---- the readings of a file

byte_read_steady : Steady byte_read
byte_read_steady [] g = tt
byte_read_steady (b ∷ bs) g = refl

byte_steady : {A : Type 0} (f : ℕ → List ℕ → Got A) → ((b : ℕ) → Steady (f b)) → Steady (λ bs. then (byte_read bs) f)
byte_steady f = then_steady byte_read f byte_read_steady

count_read_steady : Steady count_read
unfolding count_read
count_read_steady = byte_steady _ λ a. byte_steady _ λ b. byte_steady _ λ c. byte_steady _ λ d. got_steady _

tag_bytes_read_steady : (n : ℕ) → Steady (tag_bytes_read n)
unfolding tag_bytes_read
tag_bytes_read_steady zero = got_steady []
tag_bytes_read_steady (suc n) =
    byte_steady _ λ b. if_steady (printable b) _ _ (then_steady (tag_bytes_read n) _ (tag_bytes_read_steady n) (λ t. got_steady (b ∷ t))) (wrong_steady 9)

tag_read_steady : Steady tag_read
unfolding tag_read
tag_read_steady = then_steady count_read _ count_read_steady (λ n. if_steady (tag_size_ok n) _ _ (tag_bytes_read_steady n) (wrong_steady 9))

options_of_steady : (raster wipe : ℕ) → Steady (options_of raster wipe)
unfolding options_of
options_of_steady raster wipe =
    if_steady (wipe_ok wipe) _ _ (if_steady (raster_ok raster) _ _ (got_steady _) (wrong_steady 4)) (wrong_steady 9)

options_read_steady : Steady options_read
unfolding options_read
options_read_steady =
    then_steady count_read _ count_read_steady (λ n. if_steady (options_size_ok n) _ _
    (byte_steady _ λ raster. byte_steady _ λ wipe. options_of_steady raster wipe)
    (wrong_steady 9))

words_read_steady : (n : ℕ) → Steady (words_read n)
unfolding words_read
words_read_steady zero = got_steady []
words_read_steady (suc n) =
    byte_steady _ λ low. byte_steady _ λ high. if_steady (word_ok (word_of low high)) _ _
    (then_steady (words_read n) _ (words_read_steady n) (λ ws. got_steady (word_of low high ∷ ws)))
    (wrong_steady 3)

pub job_read_steady : Steady job_read
unfolding job_read
job_read_steady =
    then_steady tag_read _ tag_read_steady λ tag. then_steady options_read _ options_read_steady λ o. then_steady count_read _ count_read_steady λ n.
    then_steady (words_read n) _ (words_read_steady n) λ ws. got_steady _
