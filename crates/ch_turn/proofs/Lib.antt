pub mod Numbers
mod Once
mod Prefixes
mod Views
mod Places
mod Turns
mod Reading
mod Seating
mod Ends
