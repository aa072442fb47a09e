-- The walks of a truncation: the pages after the walk to the new first_seq are held.
-- Assumes nothing.
use mathlib.Core.Path.{◌≡◌, refl, sym, ◌∙◌, ap}
use mathlib.Core.Bool.{Bool, true, false, cond, ◌&&◌}
use mathlib.Core.List.{List, [], ◌∷◌}
use Prim.Native.Nat.{ℕ, ◌≤◌, ◌<◌}
use borrow.Author.Tests.{eqb-true, eqb-false, eq-eqb, ne_eqb}
use lib.Dec.{eqb}
use lib.ListN.{set}
use lib.Seq.{set-set, set_comm}
use Rattle.map.specs.Map.{held}
use Rattle.chain.specs.declared.PagePointer.{PagePointer}
use Rattle.chain.specs.declared.Place.{Place}
use Rattle.std.specs.Prelude.{Some, None}
use Rattle.std.proofs.lemmas.Option.{same_Some}
use Rattle.chain.specs.Files.{last_of}
use Rattle.chain.specs.declared.Step.{Step}
use Rattle.chain.specs.declared.Step.TheVariants.{Stays, Reaches, Breaks}
use Rattle.chain.specs.Steps.{read_at, back_rule, step, at, Trace, stop, through, walk}
use Rattle.chain.specs.Seek.{found}
use Rattle.chain.specs.Back.{place_of, wide, told_back, walk_back, reached_by}
use Rattle.chain.proofs.Places.{says_back}
use Rattle.chain.proofs.Edges.{ends_not, ends_through, Edge, edge, parts_end, back_ok, back_path, reached_place, reached_none}
use Rattle.state.specs.declared.types.FileRecord.{FileRecord}
use Rattle.state.specs.Values.{in_shape}
use Rattle.state.proofs.Laws.{both}
use Rattle.transact.specs.Truncate.{others, unreached, held_all}
use Rattle.transact.specs.Walks.{Ends, follows, edge_of, edge_at}

-- ---- the pages that are held

held_one : (last : ℕ) (m : List ℕ) (j : ℕ) (l : List ℕ) → held_all (held_all m (others last (j ∷ []))) (others last l) ≡ held_all m (others last (j ∷ l))
held_one last m j l = by (eqb j last)
  where
    by : (b : Bool) → held_all (held_all m (cond b [] (j ∷ []))) (others last l) ≡ held_all m (cond b (others last l) (j ∷ others last l))
    by true = refl
    by false = refl

module _ (last : ℕ) (m : List ℕ) (t : Trace) where
  -- none after the walk's last page
  pub held_stays : (p : PagePointer) → t ≡ stop (at p) → m ≡ held_all m (others last t.path)
  held_stays p e = sym (ap (λ (x : Trace). held_all m (others last x.path)) e)

  -- one and then the rest
  pub held_reaches : (m' : List ℕ) (j : ℕ) (u : Trace) → t ≡ through j u → m' ≡ held_all m (others last (j ∷ []))
      → held_all m' (others last u.path) ≡ held_all m (others last t.path)
  held_reaches m' j u e h =
      ap (λ (x : List ℕ). held_all x (others last u.path)) h
      ∙ held_one last m j u.path
      ∙ sym (ap (λ (x : Trace). held_all m (others last x.path)) e)

module _ (count : ℕ) (img : List ℕ) (limit last : ℕ) (p : Place) (ends : Ends img count p limit) (m : List ℕ) where
  abbrev back_step : Step Place
  back_step = told_back (step (back_rule count limit) (read_at img) (wide p))

  abbrev held_from : List ℕ → Place → List ℕ
  held_from l q = held_all l (others last (walk_back count (read_at img) limit q).path)

  -- where the step back reaches a page, it is held, and then those after it
  pub held_on : (q : Place) (m' : List ℕ) → Reaches q ≡ back_step → m' ≡ held_all m (others last (q.page_id ∷ []))
      → (q.seq < p.seq) × Ends img count q limit × (held_from m' q ≡ held_from m p)
  held_on q m' s h =
      let w = says_back count (read_at img) limit p (Reaches q) s in
      (w.1, ends_through (wide p) (wide q) _ _ _ w.0 ends, held_reaches last m _ m' q.page_id _ w.0 h)

  -- where it reaches none, the walk is at its end
  pub held_ended : (x : Step Place) → x ≡ back_step → ((q : Place) → x ≡ Reaches q → ⊥) → m ≡ held_from m p
  held_ended Stays s n = held_stays last m _ (wide p) (says_back count (read_at img) limit p Stays s)
  held_ended Breaks s n = absurd (ends_not (wide p) _ ends (says_back count (read_at img) limit p Breaks s))
  held_ended (Reaches q) s n = absurd (n q refl)

-- a page that is held stays so
others_held : (p : ℕ) (m l : List ℕ) → set m p held ≡ m → held_all m (others p l) ≡ held_all m l
others_held p m [] h = refl
others_held p m (q ∷ l) h = by (eqb q p) refl (λ x k. others_held p x l k)
  where
    by : (b : Bool) → eqb q p ≡ b → ((x : List ℕ) → set x p held ≡ x → held_all x (others p l) ≡ held_all x l)
        → held_all m (cond b (others p l) (q ∷ others p l)) ≡ held_all (set m q held) l
    by true e ih = ih m h ∙ ap (λ (x : List ℕ). held_all x l) (sym (ap (λ (x : ℕ). set m x held) (eqb-true q p e) ∙ h))
    by false e ih = ih (set m q held) (set_comm m q p held held (eqb-false q p e) ∙ ap (λ (x : List ℕ). set x q held) h)

-- all pages of a walk: the last one, then the others
pub held_all_lem : (p : ℕ) (m l : List ℕ) → held_all (set m p held) (others p l) ≡ held_all m (p ∷ l)
held_all_lem p m l = others_held p (set m p held) l (set-set m p held held)

-- ---- the pages of a truncation

module _ (img : List ℕ) (count : ℕ) (f : FileRecord) where
  -- the page where the walk to the new first_seq ends, and whether the walk goes on from there to a page
  abbrev edge_page : ℕ → PagePointer
  edge_page first = (found (last_of f) (walk count (read_at img) first (last_of f))).page

  abbrev onward : ℕ → Bool
  onward first = (found (edge_page first) (walk count (read_at img) f.first_seq (edge_page first))).ok

  -- a record that is followed is in shape, and its walk ends
  pub follows_says : follows img count f ≡ true → (in_shape count f ≡ true) × ((found (last_of f) (walk count (read_at img) f.first_seq (last_of f))).ok ≡ true)
  unfolding follows
  follows_says h = both (in_shape count f) _ h

  -- by what the code found of the shape and of the two walks
  module _ (first : ℕ) where
    pub edge_unshaped : in_shape count f ≡ false → None ≡ edge_at img count f first
    unfolding follows
    edge_unshaped h = rw h

    module _ (up : f.first_seq ≤ first) (shaped : in_shape count f ≡ true) (l : Place) (last : l ≡ place_of (last_of f)) where
      follows_is : follows img count f ≡ (found (last_of f) (walk count (read_at img) first (last_of f))).ok && onward first
      unfolding follows
      follows_is = rw shaped (parts_end count (read_at img) f.first_seq first up (last_of f))

      pub edge_none : None ≡ reached_by (walk_back count (read_at img) first l).ends → None ≡ edge_at img count f first
      edge_none r = rw (follows_is, reached_none count (read_at img) first (last_of f) l last r)

      module _ (x : Place) (r : Some x ≡ reached_by (walk_back count (read_at img) first l).ends) where
        reached : ((found (last_of f) (walk count (read_at img) first (last_of f))).ok ≡ true) × (x ≡ edge_of img count f first)
        reached = reached_place count (read_at img) first (last_of f) l last x r

        pub edge_short : None ≡ reached_by (walk_back count (read_at img) f.first_seq x).ends → None ≡ edge_at img count f first
        edge_short s = rw (follows_is, reached.0, reached_none count (read_at img) f.first_seq (edge_page first) x reached.1 s)

        pub edge_found : (y : Place) → Some y ≡ reached_by (walk_back count (read_at img) f.first_seq x).ends → Some x ≡ edge_at img count f first
        edge_found y s =
            rw (follows_is, reached.0, (reached_place count (read_at img) f.first_seq (edge_page first) x reached.1 y s).0)
            (ap Some reached.1)

  -- and what it told
  pub edge_says : (first : ℕ) (x : Place) → Some x ≡ edge_at img count f first → (follows img count f ≡ true) × (x ≡ edge_of img count f first)
  edge_says first x = by (follows img count f)
    where
      by : (b : Bool) → Some x ≡ cond b (Some (edge_of img count f first)) None → (b ≡ true) × (x ≡ edge_of img count f first)
      by true e = (refl, same_Some _ _ e)
      by false e = cc

  pub edge_not : (first : ℕ) → None ≡ edge_at img count f first → follows img count f ≡ false
  edge_not first = by (follows img count f)
    where
      by : (b : Bool) → None ≡ cond b (Some (edge_of img count f first)) None → b ≡ false
      by true e = cc
      by false e = refl

  module _ (first : ℕ) (followed : follows img count f ≡ true) where
    -- nothing remains: all of them
    module _ (l : Place) (last : l ≡ place_of (last_of f)) where
      pub follows_ends : Ends img count l f.first_seq
      follows_ends = back_ok count (read_at img) f.first_seq (last_of f) l last ∙ (follows_says followed).1

      pub held_whole : (m a b : List ℕ) → first ≡ f.last_seq → a ≡ set m f.last_page held
          → b ≡ held_all a (others f.last_page (walk_back count (read_at img) f.first_seq l).path) → b ≡ held_all m (unreached img count f first)
      unfolding unreached
      held_whole m a b e g h =
          rw (eq-eqb first f.last_seq e)
          (h ∙ rw (g, back_path count (read_at img) f.first_seq (last_of f) l last)
          (held_all_lem f.last_page m (walk count (read_at img) f.first_seq (last_of f)).path))

    -- something remains: those after the page where the walk to the new first_seq ends
    module _ (l : Place) (at_Edge : l ≡ edge_of img count f first) (up : f.first_seq ≤ first) where
      parts : Edge count (read_at img) f.first_seq first up (last_of f) (edge_page first)
      parts = edge count (read_at img) f.first_seq first up (last_of f) (follows_says followed).1

      pub edge_ends : Ends img count l f.first_seq
      edge_ends = back_ok count (read_at img) f.first_seq (edge_page first) l at_Edge ∙ parts.goes_on

      pub held_rest : (m b : List ℕ) → (first ≡ f.last_seq → ⊥)
          → b ≡ held_all m (others f.last_page (walk_back count (read_at img) f.first_seq l).path) → b ≡ held_all m (unreached img count f first)
      unfolding unreached
      held_rest m b n h = rw (ne_eqb first f.last_seq n, parts.left) (h ∙ rw (back_path count (read_at img) f.first_seq (edge_page first) l at_Edge))
