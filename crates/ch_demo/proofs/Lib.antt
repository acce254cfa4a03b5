mod Decks
mod Forms
mod Made
mod Sizes
mod Tiles
mod Unrolled
mod Unique
