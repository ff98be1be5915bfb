mod Made
mod Floatless
mod Few
mod Blind
mod Markup
mod Once
mod Sample
mod Written
