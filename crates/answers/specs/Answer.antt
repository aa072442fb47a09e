-- The answer to a line, by docs/REPLAY.md. Assumes nothing: these are definitions.
use Rattle.std.specs.Prelude.{ℕ, ◌+◌, List, [], ◌++◌, Option, Some, None, cond, leb, length, take, drop, replicate}
use Rattle.runs.specs.Runs.{part_of, placed}
use Rattle.script.specs.declared.command.Setup.{Setup}
use Rattle.script.specs.declared.command.Setup.TheVariants.{Lend, New, Blank, Poke}
use Rattle.script.specs.declared.command.Buffer.TheVariants.{Image, Map}
use Rattle.script.specs.declared.command.Command.{Command}
use Rattle.script.specs.declared.command.Command.TheVariants as C
use Rattle.script.specs.declared.text.Output.{Output}
use Rattle.script.specs.Text.{puts}
use Rattle.script.specs.Say.{ok, bad}
use Rattle.script.specs.Show.{shown}
use Rattle.script.specs.Command.{Told, command_of}
use Rattle.answers.specs.declared.world.World.{World}
use Rattle.answers.specs.World.{fresh, Turned, Left, left, Scene, scene}
use Rattle.answers.specs.Calls.{Sight, sight, on_volume, on_reading, on_searching, on_writing, on_files, on_helper}

-- an answer that leaves the world
abbrev pub saying : World → Output → List (List ℕ) → Turned
saying w p said = record { out = puts p said; world = w }

-- ---- the commands that are no calls, on the whole buffers

-- a world of which as much of the buffers is lent
abbrev pub lending : World → ℕ → ℕ → World
lending w image map = record { table = w.table; state = w.state; image = image; map = map }

-- a buffer with a run poked into it, and what is said of it: `bad` past its end
abbrev pub poked_by : List ℕ → ℕ → List ℕ → Output → Sight
poked_by l at run p = sight (placed l at run) (puts p (cond (leb (at + length run) (length l)) ok bad))

abbrev pub poked_image : List ℕ → World → Sight → Left
poked_image m w s = left s.bytes m (record { out = s.out; world = w })

abbrev pub poked_map : List ℕ → World → Sight → Left
poked_map i w s = left i s.bytes (record { out = s.out; world = w })

abbrev pub on_setup : Setup → List ℕ → List ℕ → List ℕ → World → Output → Left
on_setup (Lend a b) i m bytes w p = left i m (saying (lending w a b) p ok)
on_setup (New seed) i m bytes w p = left i m (saying (fresh seed w.image w.map) p ok)
on_setup Blank i m bytes w p = left (replicate (length i) 255) (replicate (length m) 0) (saying w p ok)
on_setup (Poke Image at n) i m bytes w p = poked_image m w (poked_by i at (part_of bytes 0 n) p)
on_setup (Poke Map at n) i m bytes w p = poked_map i w (poked_by m at (part_of bytes 0 n) p)

-- ---- the others, on what is lent of the buffers

abbrev pub seen : List ℕ → List ℕ → World → Sight → Scene
seen i m w s = scene s.bytes (left i m (record { out = s.out; world = w }))

abbrev pub on_lent : Command → List ℕ → List ℕ → List ℕ → World → Output → Scene
on_lent (C.Volume what) i m b w p = scene b (on_volume what i m w p)
on_lent (C.Reading what) i m b w p = seen i m w (on_reading what i m b w p)
on_lent (C.Searching what) i m b w p = scene b (on_searching what i m w p)
on_lent (C.Writing what) i m b w p = scene b (on_writing what b i m w p)
on_lent (C.Files what) i m b w p = scene b (on_files what i m w p)
on_lent (C.Show what) i m b w p = scene b (left i m (saying w p (shown i m w.table w.state what)))
on_lent (C.Helper what) i m b w p = scene b (left i m (saying w p (on_helper what)))
on_lent (C.Setup what) i m b w p = scene b (left i m (saying w p []))
on_lent C.Nothing i m b w p = scene b (left i m (saying w p []))

-- what is lent is the first bytes of each buffer; the others stay
abbrev pub rejoined : List ℕ → List ℕ → World → Scene → Scene
rejoined i m w s = scene s.bytes (left (s.left.image ++ drop w.image i) (s.left.map ++ drop w.map m) s.left.turned)

abbrev pub on_buffers : Command → List ℕ → List ℕ → List ℕ → World → Output → Scene
on_buffers c i m b w p = rejoined i m w (on_lent c (take w.image i) (take w.map m) b w p)

abbrev pub on_command : Command → List ℕ → List ℕ → List ℕ → World → Output → Scene
on_command (C.Setup what) i m b w p = scene b (on_setup what i m b w p)
on_command (C.Volume what) i m b w p = on_buffers (C.Volume what) i m b w p
on_command (C.Reading what) i m b w p = on_buffers (C.Reading what) i m b w p
on_command (C.Searching what) i m b w p = on_buffers (C.Searching what) i m b w p
on_command (C.Writing what) i m b w p = on_buffers (C.Writing what) i m b w p
on_command (C.Files what) i m b w p = on_buffers (C.Files what) i m b w p
on_command (C.Show what) i m b w p = on_buffers (C.Show what) i m b w p
on_command (C.Helper what) i m b w p = on_buffers (C.Helper what) i m b w p
on_command C.Nothing i m b w p = on_buffers C.Nothing i m b w p

-- a line that is no command changes nothing
abbrev pub on_line : Option Command → List ℕ → List ℕ → List ℕ → World → Output → Scene
on_line None i m b w p = scene b (left i m (saying w p bad))
on_line (Some c) i m b w p = on_command c i m b w p

-- the answer to a line: its command's, with the bytes that the command carries
abbrev pub answered_by : Told → List ℕ → List ℕ → World → Output → Scene
answered_by t i m w p = on_line t.command i m t.buffer w p

abbrev pub answered : List ℕ → List ℕ → List ℕ → List ℕ → World → Output → Scene
answered line i m b w p = answered_by (command_of line b) i m w p
