-- What base and ownership say of a world stays, where sizes and the metadata's place do: each call names only what it changes. Assumes nothing.
use Prim.Native.Nat.{ℕ, ◌<◌}
use mathlib.Core.Path.{◌≡◌, sym, ◌∙◌}
use mathlib.Core.Bool.{true}
use lib.ListN.{length}
use Rattle.page.specs.Page.{Bytes}
use Rattle.state.specs.World.{World}
use Rattle.owners.specs.Store.{Owner}
use Rattle.owners.specs.State.{Base}
use Rattle.agree.specs.View.{Mapped, rec_at}
use Rattle.agree.specs.Good.{RecordOk, WriterIs, SearchIs, Sees}

-- the same size, page_count and metadata page, and mounted
abbrev pub Kin : World → World → Type 0
Kin w x =
    (length x.image ≡ length w.image)
    × (x.state.meta_page ≡ w.state.meta_page)
    × (x.state.meta_seq ≡ w.state.meta_seq)
    × (x.state.page_count ≡ w.state.page_count)
    × (x.state.mounted ≡ w.state.mounted)
    × (x.state.pages ≡ w.state.pages)

-- the base may be another with the same three numbers
pub sees_on : {N : ℕ} {w : World} {b c : Base} {own : ℕ → Owner} → Sees N w b own → (x : World) (own' : ℕ → Owner)
    → (c.mp ≡ b.mp) × (c.mseq ≡ b.mseq) × (c.pc ≡ b.pc) → Kin w x → Bytes x.image
    → x.state.cursor < c.pc → SearchIs x.state.search → Mapped x.map N own' → length x.table.files ≡ 8
    → ((i : ℕ) → RecordOk x.image (rec_at x.table i))
    → (x.state.writer.active ≡ true → WriterIs x.image (rec_at x.table x.state.writer.file) x.state.writer)
    → Sees N x c own'
sees_on s x own' same kin bytes cursor search owners eight recs wr =
    record {
      size = kin.0 ∙ s.size;
      big = s.big;
      small = s.small;
      bytes = bytes;
      mp = kin.1 ∙ s.mp ∙ sym same.0;
      mseq = kin.2 ∙ s.mseq ∙ sym same.1;
      pc = kin.3 ∙ s.pc ∙ sym same.2;
      cursor = cursor;
      flag = kin.4 ∙ s.flag;
      pages = kin.5 ∙ s.pages;
      search = search;
      owners = owners;
      eight = eight;
      recs = recs;
      wr = wr;
    }
