-- The command of a line, by docs/REPLAY.md, "Lines". Assumes nothing: these are definitions.
use Rattle.std.specs.Prelude.{ℕ, ◌%◌, List, [], ◌∷◌, Option, Some, None, cond, ltb, eqb, length, get_or}
use Rattle.std.specs.Option.{option_map, option_and_then}
use Rattle.std.specs.Str.{bytes_eq}
use Prim.Native.String.{String}
use Rattle.runs.specs.Runs.{splice}
use Rattle.script.specs.declared.command.Setup.TheVariants.{Lend, New, Blank, Poke}
use Rattle.script.specs.declared.command.Buffer.{Buffer}
use Rattle.script.specs.declared.command.Buffer.TheVariants as B
use Rattle.script.specs.declared.command.Volume.TheVariants.{Format, Mount}
use Rattle.script.specs.declared.command.Reading.TheVariants.{Locate, Read, Skip}
use Rattle.script.specs.declared.command.Searching.TheVariants.{Search, Left, Right}
use Rattle.script.specs.declared.command.Writing.TheVariants.{Open, Write, End, Finish, Discard}
use Rattle.script.specs.declared.command.Files.TheVariants.{Truncate, Rename, Flags, Commit}
use Rattle.script.specs.declared.command.Helper.TheVariants.{Zeros, Index, SpanSeq, Seed}
use Rattle.script.specs.declared.command.Show.TheVariants.{State, Table, Map, Page, Image}
use Rattle.script.specs.declared.command.Command.{Command}
use Rattle.script.specs.declared.command.Command.TheVariants as C
use Rattle.script.specs.declared.command.Numbers.{Numbers}
use Rattle.script.specs.declared.command.Numbers.TheVariants.{Zero, One, Two, Three}
use Rattle.script.specs.Text.{ascii, words}
use Rattle.script.specs.Bytes.{number_of, run_of, decoded, ramp}

-- ---- numbers

-- a number in front of others: four are too many
abbrev pub in_front : ℕ → Numbers → Option Numbers
in_front a Zero = Some (One a)
in_front a (One b) = Some (Two a b)
in_front a (Two b c) = Some (Three a b c)
in_front a (Three b c d) = None

-- each of the words is a number
abbrev pub numbers : List (List ℕ) → Option Numbers
numbers [] = Some Zero
numbers (w ∷ ws) = option_and_then (λ a. option_and_then (in_front a) (numbers ws)) (number_of w)

-- ---- commands by name and numbers: None where a line is no command

abbrev pub pick : List ℕ → String → Option Command → Option Command → Option Command
pick name text this other = cond (bytes_eq name (ascii text)) this other

abbrev pub plain : List ℕ → Option Command
plain name =
    pick name "blank" (Some (C.Setup Blank))
    (pick name "format" (Some (C.Volume Format))
    (pick name "mount" (Some (C.Volume Mount))
    (pick name "left" (Some (C.Searching Left))
    (pick name "right" (Some (C.Searching Right))
    (pick name "end" (Some (C.Writing End))
    (pick name "finish" (Some (C.Writing Finish))
    (pick name "discard" (Some (C.Writing Discard))
    (pick name "commit" (Some (C.Files Commit))
    None))))))))

-- a file is at most 255, and so are flags
abbrev pub of_file : List ℕ → ℕ → Option Command
of_file name a =
    cond (ltb 255 a) None
    (pick name "search" (Some (C.Searching (Search a)))
    (pick name "open" (Some (C.Writing (Open a)))
    None))

abbrev pub of_one : List ℕ → ℕ → Option Command
of_one name a =
    pick name "new" (Some (C.Setup (New a)))
    (pick name "seed" (Some (C.Helper (Seed a)))
    (of_file name a))

-- at most the buffers' lengths are lent
abbrev pub lend : ℕ → ℕ → Option Command
lend image map =
    cond (ltb 262656 image) None
    (cond (ltb 1026 map) None
    (Some (C.Setup (Lend image map))))

abbrev pub of_bytes : List ℕ → ℕ → ℕ → Option Command
of_bytes name a b =
    cond (ltb 255 b) None
    (pick name "rename" (Some (C.Files (Rename a b)))
    (pick name "flags" (Some (C.Files (Flags a b)))
    None))

abbrev pub of_file_and : List ℕ → ℕ → ℕ → Option Command
of_file_and name a b =
    cond (ltb 255 a) None
    (pick name "locate" (Some (C.Reading (Locate a b)))
    (pick name "truncate" (Some (C.Files (Truncate a b)))
    (of_bytes name a b)))

abbrev pub of_two : List ℕ → ℕ → ℕ → Option Command
of_two name a b =
    pick name "lend" (lend a b)
    (pick name "mtz" (Some (C.Helper (Zeros a b)))
    (pick name "index" (Some (C.Helper (Index a b)))
    (pick name "spanseq" (Some (C.Helper (SpanSeq a b)))
    (of_file_and name a b))))

-- at most 20,000 bytes are read at once
abbrev pub of_read : List ℕ → ℕ → ℕ → ℕ → Option Command
of_read name a b n =
    cond (ltb 20000 n) None
    (pick name "read" (Some (C.Reading (Read a b n)))
    None)

abbrev pub of_three : List ℕ → ℕ → ℕ → ℕ → Option Command
of_three name a b n =
    cond (ltb 255 a) None
    (pick name "skip" (Some (C.Reading (Skip a b n)))
    (of_read name a b n))

abbrev pub of_numbers : List ℕ → Numbers → Option Command
of_numbers name Zero = plain name
of_numbers name (One a) = of_one name a
of_numbers name (Two a b) = of_two name a b
of_numbers name (Three a b n) = of_three name a b n

-- ---- what stands behind `show`

abbrev pub shown_by : List ℕ → Option Command
shown_by name =
    pick name "state" (Some (C.Show State))
    (pick name "table" (Some (C.Show Table))
    (pick name "map" (Some (C.Show Map))
    (pick name "image" (Some (C.Show Image))
    None)))

abbrev pub the_page : ℕ → Option Command
the_page p = cond (ltb 65535 p) None (Some (C.Show (Page p)))

abbrev pub show_of : List (List ℕ) → Option Command
show_of [] = None
show_of (name ∷ []) = shown_by name
show_of (name ∷ p ∷ []) = pick name "page" (option_and_then the_page (number_of p)) None
show_of (name ∷ p ∷ q ∷ ws) = None

-- ---- commands that carry bytes: the command, and the lent buffer with the bytes at its start

pub record Told : Type 0 where
  pub command : Option Command
  pub buffer : List ℕ

abbrev pub told : Option Command → List ℕ → Told
told c b = record { command = c; buffer = b }

-- the command of a word's bytes in hex, by how many they are
abbrev pub carried : (ℕ → Command) → List ℕ → List ℕ → Told
carried of w b = told (option_map of (run_of (length b) w)) (decoded b w)

abbrev pub written : List (List ℕ) → List ℕ → Told
written [] b = told (Some (C.Writing (Write 0))) b
written (w ∷ []) b = carried (λ n. C.Writing (Write n)) w b
written (w ∷ x ∷ ws) b = told None b

-- pokes in the map, or in the image
abbrev pub poked_at : Buffer → Option ℕ → List ℕ → List ℕ → Told
poked_at into None w b = told None b
poked_at into (Some at) w b = carried (λ n. C.Setup (Poke into at n)) w b

abbrev pub poked : Buffer → List (List ℕ) → List ℕ → Told
poked into [] b = told None b
poked into (at ∷ []) b = told None b
poked into (at ∷ w ∷ []) b = poked_at into (number_of at) w b
poked into (at ∷ w ∷ x ∷ ws) b = told None b

-- at most 20,000 bytes, and no more than there is room for
abbrev pub filled_by : ℕ → ℕ → List ℕ → Told
filled_by n start b =
    cond (ltb 20000 n) (told None b)
    (cond (ltb (length b) n) (told None b)
    (told (Some (C.Writing (Write n))) (splice b 0 (ramp n (start % 251)))))

abbrev pub filled : Option Numbers → List ℕ → Told
filled None b = told None b
filled (Some Zero) b = told None b
filled (Some (One n)) b = told None b
filled (Some (Two n start)) b = filled_by n start b
filled (Some (Three n start x)) b = told None b

-- ---- a line

abbrev pub named : List ℕ → List (List ℕ) → List ℕ → Told
named name ws b =
    cond (bytes_eq name (ascii "show")) (told (show_of ws) b)
    (cond (bytes_eq name (ascii "write")) (written ws b)
    (cond (bytes_eq name (ascii "fill")) (filled (numbers ws) b)
    (cond (bytes_eq name (ascii "poke")) (poked B.Image ws b)
    (cond (bytes_eq name (ascii "pokemap")) (poked B.Map ws b)
    (told (option_and_then (of_numbers name) (numbers ws)) b)))))

abbrev pub by_words : List (List ℕ) → List ℕ → Told
by_words [] b = told None b
by_words (name ∷ ws) b = named name ws b

-- the command of a line, and the lent buffer after it: an empty line and one that starts with # (35) are none
abbrev pub command_of : List ℕ → List ℕ → Told
command_of line b =
    cond (eqb (length line) 0) (told (Some C.Nothing) b)
    (cond (eqb (get_or line 0 0) 35) (told (Some C.Nothing) b)
    (cond (ltb 65535 (length line)) (told None b)
    (by_words (words line) b)))
