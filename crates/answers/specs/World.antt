-- The world of a script, by docs/REPLAY.md, "The world of a script", and what an answer leaves. Assumes nothing: these are definitions.
use Rattle.std.specs.Prelude.{ℕ, List}
use Rattle.script.specs.declared.text.Output.{Output}
use Rattle.state.specs.Values.{empty_table, unmounted}
use Rattle.answers.specs.declared.world.World.{World}

-- at the start, and after `new`: eight empty files and a fresh state with this seed; what is lent stays
abbrev pub fresh : ℕ → ℕ → ℕ → World
fresh seed image map = record { table = empty_table; state = unmounted seed; image = image; map = map }

-- the output with the answer's text, and the world from then on
pub record Turned : Type 0 where
  pub out : Output
  pub world : World

abbrev pub turned : Output → World → Turned
turned out w = record { out = out; world = w }

-- with the image and the map then, and with the bytes that commands carry
pub record Left : Type 0 where
  pub image : List ℕ
  pub map : List ℕ
  pub turned : Turned

abbrev pub left : List ℕ → List ℕ → Turned → Left
left image map t = record { image = image; map = map; turned = t }

pub record Scene : Type 0 where
  pub bytes : List ℕ
  pub left : Left

abbrev pub scene : List ℕ → Left → Scene
scene bytes l = record { bytes = bytes; left = l }
