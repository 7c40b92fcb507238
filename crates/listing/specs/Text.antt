-- What a text means, byte by byte.
use Rattle.std.specs.Prelude.{◌≡◌, ℕ, ◌+◌, ◌-◌, ◌*◌, ◌^◌, Bool, true, false, cond, ◌&&◌, ◌||◌, List, [], ◌∷◌, ◌++◌, length, Ok, Err, vec_items, Result, ◌==◌, nat_le, nat_lt}
use Rattle.listing.specs.declared.text.Flaw.{Flaw}
use Rattle.listing.specs.declared.text.Flaw.TheVariants.{NotDigit, TooLarge, TooManyWords, TooManyLines}
use Rattle.listing.specs.declared.text.Listing.{Listing}
use Rattle.listing.specs.declared.text.Mode.{Mode}
use Rattle.listing.specs.declared.text.Mode.TheVariants.{Between, Number, Comment}
use Rattle.listing.specs.declared.text.Room.{Room}
use Rattle.listing.specs.declared.text.reading.Sign.{Sign}
use Rattle.listing.specs.declared.text.reading.Sign.TheVariants.{Digit, Blank, Newline, Hash, Other}
use Rattle.listing.specs.Packed.{marks_of}

-- what has been read: the words, a mark for each word (false) and each newline (true), and what comes next
pub record Text : Type 0 where
  pub words : List ℕ
  pub marks : List Bool
  pub mode : Mode

abbrev pub empty : Text
empty = record { words = []; marks = []; mode = Between }

-- what a listing shows
abbrev pub shown : Listing → Text
shown l = record { words = vec_items l.words; marks = marks_of l.marks; mode = l.mode }

-- the most words and marks there is room for
abbrev pub limits_of : Listing → Room
limits_of l = record { words = l.most_words; marks = l.marks.room }

abbrev pub sign_of : ℕ → Sign
sign_of b = cond (nat_le 48 b && nat_le b 57) (Digit (b - 48)) (cond (b == 32 || (b == 9 || b == 13)) Blank (cond (b == 10) Newline (cond (b == 35) Hash Other)))

abbrev pub turned : Text → Mode → Text
turned t m = record { words = t.words; marks = t.marks; mode = m }

-- a word begins: it has its mark from its first digit on
abbrev pub begins : Room → Text → ℕ → Result Text Flaw
begins l t d = cond (nat_lt (length t.words) l.words) (cond (nat_lt (length t.marks) l.marks) (Ok (record { words = t.words; marks = t.marks ++ (false ∷ []); mode = Number d })) (Err (TooManyLines l.marks))) (Err (TooManyWords l.words))

-- a digit more
abbrev pub lengthened : Text → ℕ → ℕ → Result Text Flaw
lengthened t v d = cond (nat_lt (v * 10 + d) (2 ^ 32)) (Ok (turned t (Number (v * 10 + d)))) (Err TooLarge)

-- a word ends
abbrev pub ended : Text → ℕ → Text
ended t v = record { words = t.words ++ (v ∷ []); marks = t.marks; mode = Between }

-- a line ends
abbrev pub lined : Room → Text → Result Text Flaw
lined l t = cond (nat_lt (length t.marks) l.marks) (Ok (record { words = t.words; marks = t.marks ++ (true ∷ []); mode = t.mode })) (Err (TooManyLines l.marks))

abbrev pub and_so : Result Text Flaw → (Text → Text) → Result Text Flaw
and_so (Ok t) f = Ok (f t)
and_so (Err e) f = Err e

-- a byte between two numbers, in a number v, in a comment
abbrev pub between : Room → Text → ℕ → Sign → Result Text Flaw
between l t b (Digit d) = begins l t d
between l t b Blank = Ok t
between l t b Newline = lined l t
between l t b Hash = Ok (turned t Comment)
between l t b Other = Err (NotDigit b)

abbrev pub in_number : Room → Text → ℕ → ℕ → Sign → Result Text Flaw
in_number l t v b (Digit d) = lengthened t v d
in_number l t v b Blank = Ok (ended t v)
in_number l t v b Newline = and_so (lined l t) (λ u. ended u v)
in_number l t v b Hash = Ok (turned (ended t v) Comment)
in_number l t v b Other = Err (NotDigit b)

abbrev pub in_comment : Room → Text → ℕ → Result Text Flaw
in_comment l t b = cond (b == 10) (and_so (lined l t) (λ u. turned u Between)) (Ok t)

abbrev pub step_in : Room → Text → ℕ → Mode → Result Text Flaw
step_in l t b Between = between l t b (sign_of b)
step_in l t b (Number v) = in_number l t v b (sign_of b)
step_in l t b Comment = in_comment l t b

-- one byte
unfoldable pub step : Room → Text → ℕ → Result Text Flaw
step l t b = step_in l t b t.mode

-- where reading stops: the text up to the byte that is wrong, and what is wrong with it
pub record Stop : Type 0 where
  pub upto : Text
  pub flaw : Flaw

abbrev pub go_on : Result Text Flaw → Text → (Text → Result Text Stop) → Result Text Stop
go_on (Ok u) t k = k u
go_on (Err f) t k = Err (record { upto = t; flaw = f })

-- all bytes
unfoldable pub reads : Room → List ℕ → Text → Result Text Stop
reads l [] t = Ok t
reads l (b ∷ bs) t = go_on (step l t b) t (λ u. reads l bs u)

-- the text ends
abbrev pub finished_in : Text → Mode → Text
finished_in t Between = t
finished_in t (Number v) = ended t v
finished_in t Comment = t

abbrev pub finished : Text → Text
finished t = finished_in t t.mode

-- what a call that may find a flaw makes of a text: `out`, or nothing at all
abbrev pub Came : Result (Unit {0}) Flaw → Text → Text → Result Text Flaw → Type 0
Came (Ok x) t u out = out ≡ Ok u
Came (Err f) t u out = (out ≡ Err f) × (u ≡ t)

-- what a call that may find a flaw makes of a listing: what `out` makes of its text, or nothing at all; and its room stays
pub record Makes (r : Result (Unit {0}) Flaw) (before after : Listing) (out : Room → Text → Result Text Flaw) : Type 0 where
  pub came : Came r (shown before) (shown after) (out (limits_of before) (shown before))
  pub limits : limits_of after ≡ limits_of before

-- what a call makes of a text over many bytes
abbrev pub Fed : Result (Unit {0}) Flaw → Text → Result Text Stop → Type 0
Fed (Ok x) u out = out ≡ Ok u
Fed (Err f) u out = out ≡ Err (record { upto = u; flaw = f })
