-- The steps of an array: what each actor does, and when it may.
use Rattle.std.specs.Prelude.{ℕ, suc, pred, Bool, ◌*◌, nat_eq, nat_lt, if◌then◌else◌, List, [], ◌∷◌, ◌++◌, Option, Some, None, map, filter, flat_map, length}
use Rattle.std.specs.Option.{is_some}
use Rattle.sys_base.specs.Groups.{below}
use Rattle.sys_base.specs.Held.{word_at}
use Rattle.sys_base.specs.declared.actor.Actor.{Actor}
use Rattle.sys_base.specs.declared.actor.Actor.TheVariants.{Cell, Forward, Bind}
use Rattle.cell_code.specs.Marks.{hops, raised, raised_at, may_write, may_read, may_forward, may_bind}
use Rattle.cell_code.specs.Rows.{Row, Stands, Moves, Sends, Receives, row_at, received}
use Rattle.cell_code.specs.declared.image.Image.{Image}
use Rattle.array_model.specs.States.{ArrayState, Inputs, cells, code_of}

-- a function with another value at a number
abbrev pub put : {A : Type 0} → (ℕ → A) → ℕ → A → ℕ → A
put f i x j = if nat_eq i j then x else f j

-- a state, where a test holds
abbrev pub where_holds : Bool → ArrayState → Option ArrayState
where_holds test s = if test then Some s else None

-- what a cell does by the row of its instruction: it goes on by itself; or it writes a word, which comes to the end
-- of all that was written; or it reads the oldest word that was not read yet
abbrev pub row_step : Image → ℕ → ArrayState → ℕ → Row → Option ArrayState
row_step image cap s c Stands = None
row_step image cap s c (Moves next) = Some (record s { cell = put s.cell c next })
row_step image cap s c (Sends m word next) =
    where_holds (may_write image cap s.marks s.bound m)
    (record {
      cell = put s.cell c next;
      history = put s.history m (s.history m ++ word ∷ []);
      marks = raised_at s.marks m 0;
      bound = s.bound;
    })
row_step image cap s c (Receives m variable next) =
    where_holds (may_read image s.marks m)
    (record {
      cell = put s.cell c (received next variable (word_at s.history m (s.marks m (hops image m))));
      history = s.history;
      marks = raised_at s.marks m (hops image m);
      bound = s.bound;
    })

-- the step of an actor, if it has one: a cell executes one instruction, a word of a message moves on from a hop to
-- the next one, or a link binds its next group
abbrev pub step : Image → Inputs → ℕ → ArrayState → Actor → Option ArrayState
step image inputs cap s (Cell c) =
    if nat_lt c (cells image) then row_step image cap s c (row_at (code_of image c) c (inputs c) (s.cell c)) else None
step image inputs cap s (Forward m hop) =
    where_holds (may_forward image cap s.marks s.bound m hop) (record s { marks = raised_at s.marks m (suc hop) })
step image inputs cap s (Bind l) =
    where_holds (may_bind image s.marks s.bound l) (record s { bound = raised s.bound l })

-- whether an actor is enabled: it has a step
abbrev pub is_enabled : Image → Inputs → ℕ → ArrayState → Actor → Bool
is_enabled image inputs cap s a = is_some (step image inputs cap s a)

-- all actors in order: cells by index, then forwards by message and hop, then links by id
abbrev pub actors : Image → List Actor
actors image =
    map Cell (below (cells image))
    ++ (flat_map (λ m. map (Forward m) (below (pred (hops image m)))) (below (length image.messages))
    ++ map Bind (below (4 * cells image)))

-- the enabled actors in order
abbrev pub enabled : Image → Inputs → ℕ → ArrayState → List Actor
enabled image inputs cap s = filter (is_enabled image inputs cap s) (actors image)
