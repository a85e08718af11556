-- The keywords of the source language.
use Rattle.std.specs.Prelude.{ℕ, List, codes}
use Rattle.sys_base.specs.declared.key.Key.{Key}
use Rattle.sys_base.specs.declared.key.Key.TheVariants as K

-- how a keyword is spelt
abbrev pub key_text : Key → List ℕ
key_text K.Array = codes "array"
key_text K.Queues = codes "queues"
key_text K.Link = codes "link"
key_text K.Message = codes "message"
key_text K.From = codes "from"
key_text K.To = codes "to"
key_text K.Route = codes "route"
key_text K.Label = codes "label"
key_text K.Cell = codes "cell"
key_text K.Var = codes "var"
key_text K.Write = codes "write"
key_text K.Read = codes "read"
key_text K.Take = codes "take"
key_text K.Emit = codes "emit"
key_text K.For = codes "for"
key_text K.If = codes "if"
key_text K.Else = codes "else"
key_text K.Buffer = codes "buffer"
