mod Entries
mod Words
mod RoundKeys
