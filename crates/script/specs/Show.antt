-- What `show` prints, by docs/REPLAY.md. Assumes nothing: these are definitions.
use Rattle.std.specs.Prelude.{ℕ, zero, suc, ◌+◌, ◌/◌, List, [], ◌∷◌, ◌++◌, Bool, true, false, cond, eqb, length}
use Rattle.runs.specs.Runs.{all_erased}
use Rattle.page.specs.Page.{page_of}
use Rattle.state.specs.declared.types.FileRecord.{FileRecord}
use Rattle.state.specs.declared.types.Table.{Table}
use Rattle.state.specs.declared.types.Writer.{Writer}
use Rattle.state.specs.declared.types.Search.{Search}
use Rattle.state.specs.declared.types.State.{State}
use Rattle.state.specs.Values.{file_at}
use Rattle.state.specs.Checks.{is_mounted}
use Rattle.script.specs.declared.command.Show.{Show}
use Rattle.script.specs.declared.command.Show.TheVariants.{State as TheState, Table as TheTable, Map, Page, Image}
use Rattle.script.specs.Text.{ascii}
use Rattle.script.specs.Bytes.{adler}
use Rattle.script.specs.Say.{formed, bad, hex}

abbrev pub flag : Bool → ℕ
flag true = 1
flag false = 0

-- n lines, or groups of lines, from one on
unfoldable pub lines : (ℕ → List (List ℕ)) → ℕ → ℕ → List (List ℕ)
lines line i zero = []
lines line i (suc n) = line i ++ lines line (i + 1) n

-- ---- the state

abbrev pub writer_shown : Writer → List (List ℕ)
writer_shown w =
    cond w.active (formed (ascii " writer %:%:%:%:%:%:%") (w.file ∷ w.seq ∷ w.page ∷ w.previous ∷ w.copied ∷ w.boundary ∷ flag w.ended ∷ []))
    (ascii " writer none" ∷ [])

abbrev pub search_shown : Search → List (List ℕ)
search_shown q =
    cond q.active (formed (ascii " search %:%:%:%:%\n") (q.file ∷ q.left ∷ q.right ∷ q.result ∷ q.mid ∷ []))
    (ascii " search none\n" ∷ [])

abbrev pub mounted_shown : State → List (List ℕ)
mounted_shown s =
    formed (ascii "state pages % count % meta % seq % cursor % seed % transaction %")
    (s.pages ∷ s.page_count ∷ s.meta_page ∷ s.meta_seq ∷ s.cursor ∷ s.seed ∷ flag s.transaction ∷ [])

abbrev pub state_shown : State → List (List ℕ)
state_shown s =
    cond (is_mounted s) (mounted_shown s ++ (writer_shown s.writer ++ search_shown s.search))
    (formed (ascii "state unmounted seed %\n") (s.seed ∷ []))

-- ---- the table: a line for each file

abbrev pub links_shown : List ℕ → List (List ℕ)
links_shown links = formed (ascii " links %,%,%,%,%,%,%,%,%\n") links

abbrev pub fields_shown : ℕ → FileRecord → List (List ℕ)
fields_shown i f =
    formed (ascii "file % first % last % flags % dirty % page % seq % length % boundary %")
    (i ∷ f.first_seq ∷ f.last_seq ∷ f.flags ∷ flag f.dirty ∷ f.last_page ∷ f.header.seq ∷ f.header.length ∷ f.header.record_boundary ∷ [])

abbrev pub file_shown : ℕ → FileRecord → List (List ℕ)
file_shown i f = fields_shown i f ++ links_shown f.header.skiplist

abbrev pub table_shown : Table → List (List ℕ)
table_shown t = lines (λ i. file_shown i (file_at t i)) 0 8

-- ---- the image

-- a page in hex, where it is wholly in the image
abbrev pub page_shown : List ℕ → ℕ → List (List ℕ)
page_shown image p = cond (eqb (length (page_of image p)) 0) bad (hex (ascii "page") (page_of image p))

-- the sum of a page that is not all 0xFF
abbrev pub sum_shown : List ℕ → ℕ → List (List ℕ)
sum_shown image p = cond (all_erased (page_of image p)) [] (formed (ascii "page % %\n") (p ∷ adler 1 0 (page_of image p) ∷ []))

abbrev pub image_shown : List ℕ → List (List ℕ)
image_shown image = lines (sum_shown image) 0 (length image / 256) ++ formed (ascii "image %\n") (adler 1 0 image ∷ [])

-- ---- each

abbrev pub shown : List ℕ → List ℕ → Table → State → Show → List (List ℕ)
shown image map table state TheState = state_shown state
shown image map table state TheTable = table_shown table
shown image map table state Map = hex (ascii "map") map
shown image map table state (Page p) = page_shown image p
shown image map table state Image = image_shown image
